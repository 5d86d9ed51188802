use Rattle.std.proofs.Common.{rules}
use Rattle.std.proofs.lemmas.List.Sorted.{answers_always}
use Rattle.elasticlunr_trie_nodes.proofs.Gap.{searched}
use Rattle.elasticlunr_trie_nodes.proofs.posting_list.place_of.Goals as goal

-- the closure gives a pair's key
pub returns-clause-found : goal.returns-clause-found
returns-clause-found c =
    let facts = c.binary_search_by_key.ensures in
    let by_key = facts.position (λ pair. pair.0) (answers_always _ _ _ (λ f a r g called. search rules)) in
    (searched _ c.requires c.args.number _ facts.bound by_key).found

pub returns-clause-absent : goal.returns-clause-absent
returns-clause-absent c =
    let facts = c.binary_search_by_key.ensures in
    let by_key = facts.position (λ pair. pair.0) (answers_always _ _ _ (λ f a r g called. search rules)) in
    (searched _ c.requires c.args.number _ facts.bound by_key).absent
