use Rattle.std.proofs.Common.{subst, ap, ◌∙◌, codes}
use Rattle.serde_json.specs.View.{members_view, view}
use Rattle.serde_json.specs.Data.{put, object}
use Rattle.serde_json.proofs.Views.{view-Object}
use Rattle.std.proofs.lemmas.Result.{IfOk-from_err}
use Rattle.elasticlunr_trie_nodes.specs.Trie.{table_of}
use Rattle.elasticlunr_trie_nodes.specs.Table.{IsTable}
use Rattle.elasticlunr_trie.proofs.Bounds.{nodes_table}
use Rattle.elasticlunr_trie.proofs.Unique.{one_table, closed, closed_nodes}
use Rattle.elasticlunr_trie.proofs.OneValue.{no_float}
use Rattle.elasticlunr_trie.proofs.inverted_index.InvertedIndex.to_value.Goals as goal

pub returns-clause-only : goal.returns-clause-only
returns-clause-only c U table value =
    let root = c.self.inside.root.items in
    let nodes = c.self.inside.nodes.items in
    let tree = rw (c.deref.ensures.value, c.deref-2.ensures.value) at c.in_ok-root.ensures in
    let whole = view-Object c.set_member.new.members
    ∙ ap object (c.in_ok-set_member.ensures.put
    ∙ (λ i. put (codes "root") (view c.in_ok-root.root) (members_view (c.new-members.ensures.empty i)))) in
    one_table U (table_of root nodes c.self.inside.names) (closed U table)
    (closed_nodes root nodes c.self.invariant.0.trie c.self.inside.names) _ value
    (view c.in_ok-root.root, whole, tree) ∙ c.self.view_is

pub returns-clause-whole : goal.returns-clause-whole
returns-clause-whole c =
    let tree = rw (c.deref.ensures.value, c.deref-2.ensures.value) at c.in_ok-root.ensures in
    let whole = view-Object c.set_member.new.members
    ∙ ap object (c.in_ok-set_member.ensures.put
    ∙ (λ i. put (codes "root") (view c.in_ok-root.root) (members_view (c.new-members.ensures.empty i)))) in
    no_float (table_of c.self.inside.root.items c.self.inside.nodes.items c.self.inside.names) _
    (view c.in_ok-root.root, whole, tree)

pub returns-clause-table : goal.returns-clause-table
returns-clause-table c = subst IsTable c.self.view_is (nodes_table c.self.inside.root.items c.self.inside.nodes.items
    c.self.invariant.0.trie c.self.inside.names c.self.inside.references.items c.self.invariant.0)

pub returns-in_err-root-clause-table : goal.returns-in_err-root-clause-table
returns-in_err-root-clause-table c = subst IsTable c.self.view_is
    (nodes_table c.self.inside.root.items c.self.inside.nodes.items c.self.invariant.0.trie c.self.inside.names
    c.self.inside.references.items c.self.invariant.0)

pub returns-in_err-set_member-clause-table : goal.returns-in_err-set_member-clause-table
returns-in_err-set_member-clause-table c = subst IsTable c.self.view_is
    (nodes_table c.self.inside.root.items c.self.inside.nodes.items c.self.invariant.0.trie c.self.inside.names
    c.self.inside.references.items c.self.invariant.0)

pub returns-in_err-root-clause-tree : goal.returns-in_err-root-clause-tree
returns-in_err-root-clause-tree c = IfOk-from_err c.from_residual.result _ c.from_residual.ensures.0

pub returns-in_err-root-clause-only : goal.returns-in_err-root-clause-only
returns-in_err-root-clause-only c = IfOk-from_err c.from_residual.result _ c.from_residual.ensures.0

pub returns-in_err-root-clause-whole : goal.returns-in_err-root-clause-whole
returns-in_err-root-clause-whole c = IfOk-from_err c.from_residual.result _ c.from_residual.ensures.0

pub returns-in_err-set_member-clause-tree : goal.returns-in_err-set_member-clause-tree
returns-in_err-set_member-clause-tree c = IfOk-from_err c.from_residual-in_err-set_member.result _
    c.from_residual-in_err-set_member.ensures.0

pub returns-in_err-set_member-clause-only : goal.returns-in_err-set_member-clause-only
returns-in_err-set_member-clause-only c = IfOk-from_err c.from_residual-in_err-set_member.result _
    c.from_residual-in_err-set_member.ensures.0

pub returns-in_err-set_member-clause-whole : goal.returns-in_err-set_member-clause-whole
returns-in_err-set_member-clause-whole c = IfOk-from_err c.from_residual-in_err-set_member.result _
    c.from_residual-in_err-set_member.ensures.0
