use Rattle.std.proofs.Common.{ap, ◌∙◌}
use Rattle.elasticlunr_trie_nodes.specs.Frequencies.{frequencies_of}
use Rattle.elasticlunr_trie_nodes.proofs.Frequencies.{seen_empty}
use Rattle.elasticlunr_trie_nodes.proofs.postings.Postings.new.Goals as goal

pub returns : goal.returns
returns c = ap frequencies_of c.new.ensures ∙ seen_empty
