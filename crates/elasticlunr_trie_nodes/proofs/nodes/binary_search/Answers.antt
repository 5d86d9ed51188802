use Rattle.std.proofs.Common.{rules}
use Rattle.std.proofs.lemmas.List.Sorted.{answers_always}
use Rattle.elasticlunr_trie_nodes.proofs.Gap.{searched}
use Rattle.elasticlunr_trie_nodes.proofs.nodes.binary_search.Goals as goal

-- the closure gives a value_of's character
pub returns : goal.returns
returns c =
    let facts = c.binary_search_by_key.ensures in
    let by_key = facts.position (λ pair. pair.0) (answers_always _ _ _ (λ f a r g called. search rules)) in
    searched _ c.requires c.args.c _ facts.bound by_key
