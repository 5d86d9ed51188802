use Rattle.std.proofs.Common.{◌≡◌, [], suc, refl, sym, ap, subst, ◌∙◌, arith, length, Some, ◌-◌}
use Rattle.serde_json.specs.View.{members_view, view}
use Rattle.serde_json.specs.Data.{object}
use Rattle.serde_json.proofs.Views.{view-Object}
use Rattle.std.proofs.lemmas.Result.{IfOk-from_err}
use Rattle.elasticlunr_trie_nodes.specs.Pairs.{IsStrictlySorted}
use Rattle.elasticlunr_trie.specs.Children.{child}
use Rattle.elasticlunr_trie_nodes.specs.Nodes.{children_of, entries_of, postings_at}
use Rattle.elasticlunr_trie_nodes.specs.Trie.{table_of, named}
use Rattle.elasticlunr_trie.specs.Tree.{IsTree, frequencies}
use Rattle.elasticlunr_trie.specs.Finished.{IsNode}
use Rattle.std.specs.FinMap as map
use Rattle.elasticlunr_trie_nodes.proofs.Places.{get_there}
use Rattle.elasticlunr_trie.proofs.Finishing.{finished_step, node_tree, no_nodes_yet, IsFinishedFrom}
use Rattle.elasticlunr_trie_nodes.specs.Names.{ArePostings, named_pairs, under_names}
use Rattle.elasticlunr_trie_nodes.proofs.Ranked.{behind, count_shown}
use Rattle.elasticlunr_trie_nodes.proofs.Named.{no_df, no_entries, pairs_are, pairs_named}
use Rattle.elasticlunr_trie_nodes.specs.declared.nodes.Place.TheVariants.{Root, At}
use Rattle.elasticlunr_trie.proofs.inverted_index.value.root_value.Goals as goal

pub loop-i-init : goal.loop-i-init
loop-i-init c = record {
  low = omega arith;
  trees = no_nodes_yet c.args.names.now c.args.root.now c.args.nodes.now
      c.args.finished.now c.requires.trie;
}

pub node_value-requires-clause-sorted : goal.node_value-requires-clause-sorted
node_value-requires-clause-sorted c =
    let root = c.args.root.now in
    let nodes = c.args.nodes.now in
    let names = c.args.names.now in
    let i = c.loop-i.i - 1 in
    let node = c.index-nodes-i.result in
    let here = get_there nodes i node (omega (arith, c.loop-i.invariant.low)) ∙ ap Some (sym c.index-nodes-i.is) in
    let kids = c.as_slice.ensures ∙ sym (ap children_of here) in
    subst IsStrictlySorted (sym kids) (c.requires.trie.in_order (At i))

pub node_value-requires-clause-in_range : goal.node_value-requires-clause-in_range
node_value-requires-clause-in_range c d k e =
    let root = c.args.root.now in
    let nodes = c.args.nodes.now in
    let names = c.args.names.now in
    let i = c.loop-i.i - 1 in
    let node = c.index-nodes-i.result in
    let here = get_there nodes i node (omega (arith, c.loop-i.invariant.low)) ∙ ap Some (sym c.index-nodes-i.is) in
    let kids = c.as_slice.ensures ∙ sym (ap children_of here) in
    omega (
      arith,
      c.requires.trie.forest.is_node (At i) d k (ap (λ es. child es d) (sym kids) ∙ e),
      c.requires.one_each,
      c.loop-i.auto.finished,
    )

pub node_value-requires-clause-apart : goal.node_value-requires-clause-apart
node_value-requires-clause-apart c d f k e g =
    let root = c.args.root.now in
    let nodes = c.args.nodes.now in
    let names = c.args.names.now in
    let i = c.loop-i.i - 1 in
    let node = c.index-nodes-i.result in
    let here = get_there nodes i node (omega (arith, c.loop-i.invariant.low)) ∙ ap Some (sym c.index-nodes-i.is) in
    let kids = c.as_slice.ensures ∙ sym (ap children_of here) in
    c.requires.trie.forest.one_character (At i) (At i) d f k (ap (λ es. child es d) (sym kids) ∙ e)
    (ap (λ es. child es f) (sym kids) ∙ g)

pub loop-i-preserved : goal.loop-i-preserved
loop-i-preserved c =
    let root = c.args.root.now in
    let nodes = c.args.nodes.now in
    let names = c.args.names.now in
    let i = c.loop-i.i - 1 in
    let node = c.index-nodes-i.result in
    let here = get_there nodes i node (omega (arith, c.loop-i.invariant.low)) ∙ ap Some (sym c.index-nodes-i.is) in
    let kids = c.as_slice.ensures ∙ sym (ap children_of here) in
    let vs = c.loop-i.finished in
    let count : length vs ≡ length nodes = c.loop-i.auto.finished ∙ c.requires.one_each in
    let up : c.loop-i.i ≡ suc i = omega arith in
    let P = named names (postings_at nodes i) in
    let ranked = c.in_ok-ranked.ranked.items in
    let shown : map.entries P ≡ under_names names (behind ranked) =
    ap map.entries (pairs_named names (postings_at nodes i) (c.requires.numbered i) c.requires.names
    ∙ ap (named_pairs names) (sym (ap (λ o. map.entries (entries_of o)) (sym here))))
    ∙ c.in_ok-ranked.ensures.shown in
    let docs = c.in_ok-docs.ensures ∙ ap (λ r. object (frequencies (under_names names (behind r))))
    c.deref.ensures.value ∙ ap (λ es. object (frequencies es)) (sym shown) in
    let counted = c.len-df.ensures ∙ c.in_ok-ranked.ranked.ok.0 ∙ sym (count_shown names P ranked shown) in
    let made = subst (λ es. IsNode es vs (view c.in_ok-docs.docs) c.len-df.result c.in_ok-value.ensures.node.0) kids
    c.in_ok-value.ensures.node.2 in
    record {
      low = omega (arith, c.loop-i.invariant.low);
      trees = subst (λ ws. IsFinishedFrom names root nodes ws i) (sym c.set_value.ensures)
          (finished_step root nodes c.requires.trie names vs c.node_value.new.finished i c.in_ok-value.value
          (subst (IsFinishedFrom names root nodes vs) up c.loop-i.invariant.trees)
          (omega (arith, c.node_value.auto.finished, count, c.loop-i.invariant.low)) count
          (λ k h. c.in_ok-value.ensures.kept k (λ d e. h d (ap (λ es. child es d) (sym kids) ∙ e)))
          (λ t path trees. subst (IsTree (table_of root nodes names) t) (sym c.in_ok-value.ensures.node.1)
          (node_tree root nodes c.requires.trie names t (At i) path vs (view c.in_ok-docs.docs) c.len-df.result
          c.in_ok-value.ensures.node.0 made count
          docs
          counted
          trees)));
    }

pub node_value-requires-2-clause-sorted : goal.node_value-requires-2-clause-sorted
node_value-requires-2-clause-sorted c = c.requires.trie.in_order Root

pub node_value-requires-2-clause-in_range : goal.node_value-requires-2-clause-in_range
node_value-requires-2-clause-in_range c d k e =
    omega (arith, c.requires.trie.forest.is_node Root d k e, c.requires.one_each, c.loop-i.auto.finished)

pub node_value-requires-2-clause-apart : goal.node_value-requires-2-clause-apart
node_value-requires-2-clause-apart c d f k e g = c.requires.trie.forest.one_character Root Root d f k e g

pub returns : goal.returns
returns c =
    let root = c.args.root.now in
    let nodes = c.args.nodes.now in
    let names = c.args.names.now in
    let vs = c.loop-i.finished in
    let count : length vs ≡ length nodes = c.loop-i.auto.finished ∙ c.requires.one_each in
    let node = c.in_ok-value-2.ensures.node in
    subst (IsTree (table_of root nodes names) []) (sym node.1)
    (node_tree root nodes c.requires.trie names [] Root refl vs _ 0 node.0 node.2 count
    (view-Object c.new.result ∙ ap (λ es. object (members_view es)) c.new.ensures.empty
    ∙ ap object (ap frequencies (sym (no_entries names))))
    (sym (no_df names))
    (λ d k v e there. c.loop-i.invariant.trees [] Root d k v refl (omega arith) e (omega arith) there))

pub in_order-requires-clause-postings : goal.in_order-requires-clause-postings
in_order-requires-clause-postings c =
    let nodes = c.args.nodes.now in
    let i = c.loop-i.i - 1 in
    let here = get_there nodes i c.index-nodes-i.result (omega (arith, c.loop-i.invariant.low))
    ∙ ap Some (sym c.index-nodes-i.is) in
    subst (ArePostings c.args.names.now) (sym (ap (λ o. map.entries (entries_of o)) (sym here)))
    (pairs_are c.args.names.now (postings_at nodes i) (c.requires.numbered i))

pub docs_value-requires-clause-shown : goal.docs_value-requires-clause-shown
docs_value-requires-clause-shown c =
    let nodes = c.args.nodes.now in
    let names = c.args.names.now in
    let i = c.loop-i.i - 1 in
    let here = get_there nodes i c.index-nodes-i.result (omega (arith, c.loop-i.invariant.low))
    ∙ ap Some (sym c.index-nodes-i.is) in
    let P = named names (postings_at nodes i) in
    let shown : map.entries P ≡ under_names names (behind c.in_ok-ranked.ranked.items) =
    ap map.entries (pairs_named names (postings_at nodes i) (c.requires.numbered i) c.requires.names
    ∙ ap (named_pairs names) (sym (ap (λ o. map.entries (entries_of o)) (sym here))))
    ∙ c.in_ok-ranked.ensures.shown in
    (P, shown ∙ ap (λ r. under_names names (behind r)) (sym c.deref.ensures.value))

pub returns-in_err-ranked : goal.returns-in_err-ranked
returns-in_err-ranked c = IfOk-from_err c.from_residual.result _ c.from_residual.ensures.0

pub returns-in_err-docs : goal.returns-in_err-docs
returns-in_err-docs c = IfOk-from_err c.from_residual-in_err-docs.result _ c.from_residual-in_err-docs.ensures.0

pub returns-in_err-value : goal.returns-in_err-value
returns-in_err-value c = IfOk-from_err c.from_residual-in_err-value.result _ c.from_residual-in_err-value.ensures.0

pub returns-in_err-value-2 : goal.returns-in_err-value-2
returns-in_err-value-2 c = IfOk-from_err c.from_residual-in_err-value-2.result _
    c.from_residual-in_err-value-2.ensures.0
