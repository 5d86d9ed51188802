use Rattle.elasticlunr_stem_cache.proofs.Stems.{some_right}
use Rattle.elasticlunr_stem_cache.proofs.cache.put_entry.Goals as goal

pub returns-then-is_none : goal.returns-then-is_none
returns-then-is_none c = λ language version all is.
    c.put_at-older.ensures.new language version all (some_right language version c.args.entry is)

pub returns : goal.returns
returns c = λ language version all is.
    let right = some_right language version c.args.entry is in
    c.put_at.ensures.new language version (c.put_at-older.ensures.new language version all right)
    (c.put_at-older.ensures.result language version all right)
