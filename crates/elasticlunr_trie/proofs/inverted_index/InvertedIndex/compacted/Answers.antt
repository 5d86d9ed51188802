use Rattle.std.proofs.Common.{◌≡◌, ◌↔◌, ◌⊎◌, [], IsTrue, IsSome, subst, ◌∙◌}
use Rattle.elasticlunr_error.specs.Text.{Text, Bytes}
use Rattle.elasticlunr_trie_nodes.specs.Table.{IsPrefix, knows, posting}
use Rattle.elasticlunr_trie_nodes.specs.Trie.{table_of}
use Rattle.elasticlunr_trie.proofs.Bounds.{nodes_table}
use Rattle.elasticlunr_trie.proofs.inverted_index.InvertedIndex.compacted.Goals as goal

pub returns-clause-known : goal.returns-clause-known
returns-clause-known c s =
    let old = (λ i. table_of (c.deref.ensures.value i) (c.deref-2.ensures.value i) c.self.inside.names)
    ∙ c.self.view_is in
    subst (λ T. IsTrue (knows (table_of c.in_ok-root.root.items c.in_ok-root.nodes.items c.in_ok-root.names) s)
    ↔ ((s ≡ []) ⊎ ((u : Text) × (r : Bytes) × IsPrefix s u × IsSome (posting T u r)))) old
    (c.in_ok-root.ensures.known s)

pub returns-clause-table : goal.returns-clause-table
returns-clause-table c = nodes_table c.in_ok-root.root.items c.in_ok-root.nodes.items c.in_ok-root.ensures.index.trie
    c.in_ok-root.names c.in_ok-root.references.items c.in_ok-root.ensures.index
