use Rattle.std.proofs.Common.{rules, subst}
use Rattle.std.specs.FinMap.{entries}
use Rattle.std.specs.List.Sorted.{IsPermutation}
use Rattle.std.proofs.lemmas.List.Sorted.{IsNonDecreasingBy-from_sort_by_key}
use Rattle.elasticlunr_trie_nodes.proofs.Ranked.{all_there, shown}
use Rattle.elasticlunr_trie_nodes.proofs.docs.in_order.Goals as goal

pub returns-clause-shown : goal.returns-clause-shown
returns-clause-shown c =
    let r = c.sort_unstable_by_key.new.self.items in
    shown c.args.names.now c.requires.names c.args.ranks.now c.requires.ranks (entries c.args.postings.now) c.requires.postings r
    (subst (λ xs. IsPermutation xs r) c.in_ok-ranked.ensures c.sort_unstable_by_key.ensures.permutation)
    (IsNonDecreasingBy-from_sort_by_key (λ e. e.0) r c.sort_unstable_by_key.ensures.sorted (λ a q f k. search rules))

pub returns-clause-there : goal.returns-clause-there
returns-clause-there c =
    let r = c.sort_unstable_by_key.new.self.items in
    all_there c.args.names.now c.requires.names c.args.ranks.now c.requires.ranks (entries c.args.postings.now) c.requires.postings r
    (subst (λ xs. IsPermutation xs r) c.in_ok-ranked.ensures c.sort_unstable_by_key.ensures.permutation)
