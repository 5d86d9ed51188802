use Rattle.std.proofs.Common.{ap, ◌∙◌}
use Rattle.elasticlunr_trie_nodes.specs.Frequencies.{frequencies_of}
use Rattle.elasticlunr_trie_nodes.proofs.Frequencies.{seen_empty}
use Rattle.elasticlunr_trie_nodes.proofs.postings.Postings.with_room.Goals as goal

pub returns : goal.returns
returns c = ap frequencies_of c.in_ok-pairs.ensures ∙ seen_empty
