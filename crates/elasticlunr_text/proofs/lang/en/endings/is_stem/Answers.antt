use Rattle.std.proofs.Common.{sym, ◌∙◌}
use Rattle.elasticlunr_text.proofs.EndingLemmas.{is_stem_true, is_stem_false}
use Rattle.elasticlunr_text.proofs.lang.en.endings.is_stem.Goals as goal

pub returns-then-not-is_empty : goal.returns-then-not-is_empty
returns-then-not-is_empty c =
    is_stem_true c.args.text.now c.utf8.text (sym c.is_empty.ensures ∙ c.if-not-is_empty.true) c.has_no_line_feed.result
    c.has_no_line_feed.ensures

pub returns-else-not-is_empty : goal.returns-else-not-is_empty
returns-else-not-is_empty c =
    is_stem_false c.args.text.now c.is_empty.result c.is_empty.ensures c.if-not-is_empty.false
