use Rattle.std.proofs.Common.{map, All, take}
use Rattle.elasticlunr_trie_nodes.specs.Table.{AreChanged, additions}
use Rattle.elasticlunr_trie_nodes.specs.Trie.{step_of, IsIndex}
use Rattle.elasticlunr_trie_nodes.specs.NodeTables.{node_table}
use Rattle.elasticlunr_trie_nodes.specs.Starts.{IsStart, KeepsPaths, told}
use Rattle.elasticlunr_trie.proofs.inverted_index.starts.add_walked.Given as goal

-- the starts lead where they led, and those before this one are added
abbrev pub invariant-loop-start : goal.invariant-loop-start
invariant-loop-start l =
    IsIndex l.root.items l.nodes.items l.names l.references.items × All (IsStart (step_of l.root.items l.nodes.items))
    l.starts
    × AreChanged (additions l.doc_ref (map told (take l.start-index l.starts)))
    (node_table l.fn.root l.fn.nodes l.fn.names) (node_table l.root l.nodes l.names)
    × KeepsPaths (step_of l.fn.root.items l.fn.nodes.items) (step_of l.root.items l.nodes.items)
