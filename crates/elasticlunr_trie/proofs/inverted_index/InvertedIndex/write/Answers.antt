use Rattle.std.proofs.Common.{subst}
use Rattle.elasticlunr_trie_nodes.specs.Table.{IsTable}
use Rattle.elasticlunr_trie.proofs.Bounds.{nodes_table}
use Rattle.elasticlunr_trie.proofs.inverted_index.InvertedIndex.write.Goals as goal

pub returns-clause-table : goal.returns-clause-table
returns-clause-table g c = subst IsTable c.self.view_is (nodes_table c.self.inside.root.items c.self.inside.nodes.items
    c.self.invariant.0.trie c.self.inside.names c.self.inside.references.items c.self.invariant.0)

pub returns-in_err-ranks-clause-table : goal.returns-in_err-ranks-clause-table
returns-in_err-ranks-clause-table g c = subst IsTable c.self.view_is
    (nodes_table c.self.inside.root.items c.self.inside.nodes.items c.self.invariant.0.trie c.self.inside.names
    c.self.inside.references.items c.self.invariant.0)

pub returns-in_err-names-clause-table : goal.returns-in_err-names-clause-table
returns-in_err-names-clause-table g c = subst IsTable c.self.view_is
    (nodes_table c.self.inside.root.items c.self.inside.nodes.items c.self.invariant.0.trie c.self.inside.names
    c.self.inside.references.items c.self.invariant.0)
