use Rattle.std.proofs.Common.{subst, sym, ap, ◌∙◌}
use Rattle.elasticlunr_trie_nodes.specs.Pairs.{IsStrictlySorted}
use Rattle.elasticlunr_trie_nodes.specs.Frequencies.{frequencies_of}
use Rattle.elasticlunr_trie_nodes.proofs.Gap.{sorted_set, sorted_insert, gets_set, gets_insert}
use Rattle.elasticlunr_trie_nodes.proofs.Frequencies.{seen_set}
use Rattle.elasticlunr_trie_nodes.proofs.postings.set_pair.Goals as goal

pub returns-in_ok-set-in-Ok-clause-sorted : goal.returns-in_ok-set-in-Ok-clause-sorted
returns-in_ok-set-in-Ok-clause-sorted c =
    subst IsStrictlySorted (sym c.in_ok-set-in-Ok.ensures.ok)
    (sorted_set _ c.requires _ _ c.in-Ok.ensures.found c.args.frequency)

pub returns-in_ok-set-in-Ok-clause-ok : goal.returns-in_ok-set-in-Ok-clause-ok
returns-in_ok-set-in-Ok-clause-ok c =
    let here = c.in-Ok.ensures.found in
    ap frequencies_of c.in_ok-set-in-Ok.ensures.ok
    ∙ seen_set _ _ c.requires (sorted_set _ c.requires _ _ here c.args.frequency) c.args.number c.args.frequency
    (gets_set _ c.requires _ _ here c.args.frequency)

pub returns-in_ok-insert-in-Err-clause-sorted : goal.returns-in_ok-insert-in-Err-clause-sorted
returns-in_ok-insert-in-Err-clause-sorted c =
    subst IsStrictlySorted (sym c.in_ok-insert-in-Err.ensures.ok)
    (sorted_insert _ _ _ c.in-Err.ensures.absent c.args.frequency c.requires)

pub returns-in_ok-insert-in-Err-clause-ok : goal.returns-in_ok-insert-in-Err-clause-ok
returns-in_ok-insert-in-Err-clause-ok c =
    let free = c.in-Err.ensures.absent in
    ap frequencies_of c.in_ok-insert-in-Err.ensures.ok
    ∙ seen_set _ _ c.requires (sorted_insert _ _ _ free c.args.frequency c.requires) c.args.number c.args.frequency
    (gets_insert _ _ _ free c.args.frequency)
