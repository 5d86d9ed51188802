use Rattle.std.proofs.Common.{sym, ap}
use Rattle.elasticlunr_trie_nodes.specs.Nodes.{entries_of}
use Rattle.elasticlunr_trie_nodes.proofs.Places.{get_there}
use Rattle.elasticlunr_trie_nodes.proofs.nodes.postings_at.Goals as goal

pub returns : goal.returns
returns c = sym (ap entries_of (get_there c.args.nodes.now c.args.k _ c.requires))
