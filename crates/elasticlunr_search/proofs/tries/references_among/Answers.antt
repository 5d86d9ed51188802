use Rattle.std.proofs.Common.{◌∙◌, ap, sym, subst, arith}
use Rattle.std.specs.List.Sorted.{IsStrictlySortedBy}
use Rattle.std.specs.Str.{chars}
use Rattle.elasticlunr_text.specs.Text.{text_cmp, is_listed}
use Rattle.elasticlunr_search.proofs.Among.{all_tables}
use Rattle.elasticlunr_search.proofs.tries.references_among.Goals as goal

pub returns-clause-sorted : goal.returns-clause-sorted
returns-clause-sorted c = subst (IsStrictlySortedBy text_cmp) (sym c.in_ok-found.ensures.texts)
    c.in_ok-found.ensures.order

pub returns-clause-listed : goal.returns-clause-listed
returns-clause-listed c r = ap (is_listed r) c.in_ok-found.ensures.texts ∙ c.loop-trie.invariant r
    ∙ all_tables c.args.tries.now c.loop-trie.trie-index (chars c.args.token.now) r (omega arith)
