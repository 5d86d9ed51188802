use Rattle.serde_json.specs.View.{view}
use Rattle.elasticlunr_trie.proofs.Bounds.{nodes_table}
use Rattle.std.proofs.Common.{rules}
use Rattle.elasticlunr_trie.proofs.inverted_index.InvertedIndex.from_value.Goals as goal

pub returns-clause-table : goal.returns-clause-table
returns-clause-table c = nodes_table c.in_ok-root.root.items c.in_ok-root.nodes.items c.in_ok-root.ensures.index.trie
    c.read_nodes.new.names c.read_nodes.new.references.items c.in_ok-root.ensures.index

pub returns-in_default-clause-foreign : goal.returns-in_default-clause-foreign
returns-in_default-clause-foreign c T table value = c.only_member.ensures.none c.in_default.is value.0 value.1

pub returns-clause-ok : goal.returns-clause-ok
returns-clause-ok c = (view c.in-Some.root.now, c.in-Some.ensures.found, c.in_ok-root.ensures.tree)

pub invariant_of-result : goal.invariant_of-result
invariant_of-result c = search rules
