use Rattle.std.proofs.Common.{subst, sym}
use Rattle.elasticlunr_trie_nodes.specs.Pairs.{IsStrictlySorted}
use Rattle.elasticlunr_trie_nodes.proofs.Found.{value-remove, GetsAfterRemove}
use Rattle.elasticlunr_trie_nodes.proofs.Gap.{sorted_remove, value_in_gap}
use Rattle.elasticlunr_trie_nodes.proofs.Frequencies.{seen_remove, seen_absent}
use Rattle.std.proofs.Common.{rules}
use Rattle.elasticlunr_trie_nodes.proofs.postings.remove_pair.Goals as goal

pub returns-in-Ok-clause-sorted : goal.returns-in-Ok-clause-sorted
returns-in-Ok-clause-sorted c =
    subst IsStrictlySorted (sym c.remove.ensures) (sorted_remove _ c.requires _ c.in-Ok.ensures.found.in_range)

pub returns-in-Ok-clause-removed : goal.returns-in-Ok-clause-removed
returns-in-Ok-clause-removed c =
    let here = c.in-Ok.ensures.found in
    let l = c.args.pairs.now.items in
    seen_remove l _ c.requires (subst IsStrictlySorted (sym c.remove.ensures)
    (sorted_remove _ c.requires _ here.in_range)) c.args.number
    (subst (λ m. GetsAfterRemove l m c.args.number) (sym c.remove.ensures)
    (value-remove l c.args.number _ here c.requires))

pub returns-in_default-clause-removed : goal.returns-in_default-clause-removed
returns-in_default-clause-removed c =
    seen_absent _ c.requires _ (value_in_gap _ _ _ c.in_default.ensures.absent)

pub returns-in_default-clause-sorted : goal.returns-in_default-clause-sorted
returns-in_default-clause-sorted c = search rules
