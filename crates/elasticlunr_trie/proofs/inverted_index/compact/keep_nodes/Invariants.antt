use Rattle.elasticlunr_trie_nodes.specs.Names.{AreNames}
use Rattle.elasticlunr_trie_nodes.specs.Nodes.{AreListed}
use Rattle.elasticlunr_trie.specs.Compact.{KeepsBelow}
use Rattle.elasticlunr_trie.proofs.inverted_index.compact.keep_nodes.Given as goal

-- the marked nodes so far
abbrev pub invariant-loop-i : goal.invariant-loop-i
invariant-loop-i l =
    record {
      names_are : AreNames l.kept_names;
      listed : AreListed l.kept_names l.references.items l.kept.items;
      kept : KeepsBelow l.marks l.names l.nodes l.kept_names l.kept.items l.i;
    }
