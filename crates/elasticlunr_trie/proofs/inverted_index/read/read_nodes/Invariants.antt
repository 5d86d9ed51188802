use Rattle.std.proofs.Common.{◌-◌, ◌^◌, length}
use Rattle.serde_json.specs.View.{view}
use Rattle.elasticlunr_trie_nodes.specs.Names.{AreNames}
use Rattle.elasticlunr_trie_nodes.specs.Nodes.{AreListed}
use Rattle.elasticlunr_trie.specs.Reading.{borrowed_values}
use Rattle.elasticlunr_trie.proofs.Waiting.{IsRead}
use Rattle.elasticlunr_trie.proofs.inverted_index.read.read_nodes.Given as goal

-- the nodes so far are read, and their postings listed
abbrev pub invariant-loop-alloc : goal.invariant-loop-alloc
invariant-loop-alloc l =
    record {
      names_are : AreNames l.names;
      listed : AreListed l.names l.references.items l.nodes.items;
      read : IsRead l.names l.root.items l.nodes.items (view l.value) (borrowed_values l.waiting.items);
    }

-- each round makes a node, and a vector has no more than this
abbrev pub decreases-loop-alloc : goal.decreases-loop-alloc
decreases-loop-alloc l = 2 ^ 64 - length l.nodes.items
