use Rattle.std.proofs.Common.{◌∙◌, ap, sym, arith, is_some}
use Rattle.std.specs.Borrow.{Bor}
use Rattle.std.specs.Str.{chars}
use Rattle.elasticlunr_trie.specs.Table.{Table, posting}
use Rattle.elasticlunr_search.proofs.Among.{has_one}
use Rattle.elasticlunr_search.proofs.tries.is_among.Goals as goal

pub returns-then-has_posting : goal.returns-then-has_posting
returns-then-has_posting c =
    let trie = c.trie-item.result in
    sym (has_one c.args.tries.now c.loop-trie.trie-index trie (chars c.args.token.now) c.args.reference.now
    (omega arith)
    (ap (λ (t : Bor Table). is_some (posting t.now (chars c.args.token.now) c.args.reference.now)) (sym c.trie-item.is)
    ∙ sym c.has_posting.ensures ∙ c.if-has_posting.true))
