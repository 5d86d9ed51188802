use Rattle.elasticlunr_trie_nodes.proofs.Gap.{value_at_place}
use Rattle.elasticlunr_trie_nodes.proofs.nodes.gap.Goals as goal

-- the character has no value_of
pub returns-in-Ok : goal.returns-in-Ok
returns-in-Ok c =
    let here = value_at_place _ c.requires.sorted _ _ c.in-Ok.ensures.found in
    absurd (cc (c.requires.free, here))
