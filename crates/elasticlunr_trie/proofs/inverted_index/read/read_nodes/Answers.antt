use Rattle.std.proofs.Common.{◌≡◌, [], sym, subst, ◌∙◌, true≢false, length, arith}
use Rattle.std.proofs.lemmas.List.{nil_from_length}
use Rattle.serde_json.specs.View.{view}
use Rattle.std.proofs.lemmas.Result.{IfOk-from_err}
use Rattle.elasticlunr_trie_nodes.specs.Names.{AreNames}
use Rattle.elasticlunr_trie_nodes.specs.Nodes.{AreListed, IsListed}
use Rattle.elasticlunr_trie.specs.Reading.{borrowed_values, ReadsNode}
use Rattle.elasticlunr_trie_nodes.proofs.Gathered.{none_all_listed, listed_behind, places_extended}
use Rattle.elasticlunr_trie.proofs.Reading.{length-borrowed, borrowed_there}
use Rattle.elasticlunr_json.proofs.Refusals.{refused_again}
use Rattle.elasticlunr_trie.proofs.Waiting.{IsRead, root_read, node_read, read_tree, read_trie, read_parents}
use Rattle.elasticlunr_trie.proofs.Waiting.{root_refused}
use Rattle.elasticlunr_trie.proofs.inverted_index.read.read_nodes.Goals as goal

pub returns-then-not-is_empty-clause-foreign : goal.returns-then-not-is_empty-clause-foreign
returns-then-not-is_empty-clause-foreign c T table tree =
    root_refused _ _ _ _ _ c.in_ok-first.ensures.ok
    (λ none. true≢false (sym (c.is_empty.ensures.1 none) ∙ c.if-not-is_empty.true)) T table tree

pub loop-alloc-init : goal.loop-alloc-init
loop-alloc-init c =
    let reads = subst (λ rs. ReadsNode c.in_ok-first.first.items c.in_ok-first.docs.entries (borrowed_values rs)
    (borrowed_values c.read_node.new.waiting.items) (view c.args.value.now)) c.new-waiting.ensures.items
    c.in_ok-first.ensures.ok in
    let bare = nil_from_length c.in_ok-first.docs.entries (c.is_empty.ensures.0 c.if-not-is_empty.false) in
    record {
      names_are = subst AreNames (sym c.requires)
          (record { distinct = λ n r e. absurd (cc); texts = λ n r e. absurd (cc) });
      listed = subst (λ ns. AreListed c.args.names.now c.args.references.now.items ns) (sym c.new-nodes.ensures.items)
          (none_all_listed c.args.names.now c.args.references.now.items);
      read = subst (λ ns. IsRead c.args.names.now c.in_ok-root.root.items ns (view c.args.value.now)
          (borrowed_values c.read_node.new.waiting.items)) (sym c.new-nodes.ensures.items)
          (subst (λ es. IsRead c.args.names.now es [] (view c.args.value.now)
          (borrowed_values c.read_node.new.waiting.items)) (sym c.in_ok-root.ensures)
          (root_read c.args.names.now c.in_ok-first.first.items c.in_ok-first.docs.entries
          (borrowed_values c.read_node.new.waiting.items) (view c.args.value.now) reads bare));
    }

pub returns-in_err-children-clause-foreign : goal.returns-in_err-children-clause-foreign
returns-in_err-children-clause-foreign c =
    refused_again _ _ (λ foreign T table tree. let at = c.loop-alloc.invariant.read.possible T table tree
    (length c.loop-alloc.nodes.items) c.index.result.now.now
    (borrowed_there c.loop-alloc.waiting.items c.len-in-loop-alloc-2.result (length c.loop-alloc.nodes.items)
    c.index.result.now
    (omega (
      arith,
      c.loop-alloc-test.true,
      c.len.ensures,
      c.len-in-loop-alloc.ensures,
      c.loop-alloc.waiting.ok.0,
      c.loop-alloc.nodes.ok.0,
    )) (c.len-in-loop-alloc-2.ensures ∙ c.loop-alloc.nodes.ok.0) c.index.ensures) in
    foreign T at.0 table at.1)
    c.in_err-children.field-0.0 c.from_residual-in_err-children.result c.from_residual-in_err-children.ensures.1
    c.in_err-children.ensures.foreign

pub loop-alloc-preserved : goal.loop-alloc-preserved
loop-alloc-preserved c =
    let held = c.loop-alloc.invariant in
    let nodes = c.loop-alloc.nodes.items in
    let new = c.number_docs.new.names in
    let ok = c.in_ok-postings.ensures in
    let items = c.in_ok-push.ensures.items in
    record {
      names_are = ok.names;
      listed = subst (λ ns. AreListed new c.number_docs.new.references.items ns) (sym items)
          (listed_behind c.loop-alloc.names c.loop-alloc.references.items nodes held.listed new
          c.number_docs.new.references.items ok.extends ok.keeps _
          (subst (λ k. IsListed new c.number_docs.new.references.items k c.in_ok-postings.postings)
          (c.len-in-loop-alloc-3.ensures ∙ c.loop-alloc.nodes.ok.0) ok.listed));
      read = subst (λ ns. IsRead new c.in_ok-root.root.items ns (view c.args.value.now)
          (borrowed_values c.read_node-in-loop-alloc.new.waiting.items)) (sym items)
          (node_read c.loop-alloc.names new c.in_ok-root.root.items nodes (view c.args.value.now)
          (borrowed_values c.loop-alloc.waiting.items)
          (borrowed_values c.read_node-in-loop-alloc.new.waiting.items) held.read c.index.result.now.now
          (borrowed_there c.loop-alloc.waiting.items c.len-in-loop-alloc-2.result (length nodes)
          c.index.result.now
          (omega (
            arith,
            c.loop-alloc-test.true,
            c.len.ensures,
            c.len-in-loop-alloc.ensures,
            c.loop-alloc.waiting.ok.0,
            c.loop-alloc.nodes.ok.0,
          )) (c.len-in-loop-alloc-2.ensures ∙ c.loop-alloc.nodes.ok.0) c.index.ensures) _
          c.in_ok-children.docs.entries c.in_ok-children.ensures.ok
          ok.same (places_extended c.loop-alloc.names new c.in_ok-root.root.items nodes ok.extends held.listed.named));
    }

pub returns-clause-index : goal.returns-clause-index
returns-clause-index c =
    let held = c.loop-alloc.invariant in
    let same : length c.loop-alloc.waiting.items ≡ length c.loop-alloc.nodes.items =
    omega (
      arith,
      c.loop-alloc-test.false,
      c.len.ensures,
      c.len-in-loop-alloc.ensures,
      held.read.low,
      c.loop-alloc.waiting.ok.0,
      c.loop-alloc.nodes.ok.0,
      length-borrowed c.loop-alloc.waiting.items,
    ) in
    record {
      trie = read_trie c.loop-alloc.names c.in_ok-root.root.items c.loop-alloc.nodes.items (view c.args.value.now)
          (borrowed_values c.loop-alloc.waiting.items) held.read (length-borrowed c.loop-alloc.waiting.items ∙ same);
      parents = read_parents c.loop-alloc.names c.in_ok-root.root.items c.loop-alloc.nodes.items (view c.args.value.now)
          (borrowed_values c.loop-alloc.waiting.items) held.read (length-borrowed c.loop-alloc.waiting.items ∙ same);
      names_are = held.names_are;
      listed = held.listed;
    }

pub returns-clause-tree : goal.returns-clause-tree
returns-clause-tree c =
    let held = c.loop-alloc.invariant in
    let same : length c.loop-alloc.waiting.items ≡ length c.loop-alloc.nodes.items =
    omega (
      arith,
      c.loop-alloc-test.false,
      c.len.ensures,
      c.len-in-loop-alloc.ensures,
      held.read.low,
      c.loop-alloc.waiting.ok.0,
      c.loop-alloc.nodes.ok.0,
      length-borrowed c.loop-alloc.waiting.items,
    ) in
    read_tree c.loop-alloc.names c.in_ok-root.root.items c.loop-alloc.nodes.items (view c.args.value.now)
    (borrowed_values c.loop-alloc.waiting.items) held.read (length-borrowed c.loop-alloc.waiting.items ∙ same)

pub returns-in_err-first-clause-index : goal.returns-in_err-first-clause-index
returns-in_err-first-clause-index c = IfOk-from_err c.from_residual.result _ c.from_residual.ensures.0

pub returns-in_err-first-clause-tree : goal.returns-in_err-first-clause-tree
returns-in_err-first-clause-tree c = IfOk-from_err c.from_residual.result _ c.from_residual.ensures.0

pub returns-in_err-root-clause-index : goal.returns-in_err-root-clause-index
returns-in_err-root-clause-index c = IfOk-from_err c.from_residual-in_err-root.result _
    c.from_residual-in_err-root.ensures.0

pub returns-in_err-root-clause-tree : goal.returns-in_err-root-clause-tree
returns-in_err-root-clause-tree c = IfOk-from_err c.from_residual-in_err-root.result _
    c.from_residual-in_err-root.ensures.0

pub returns-in_err-children-clause-index : goal.returns-in_err-children-clause-index
returns-in_err-children-clause-index c = IfOk-from_err c.from_residual-in_err-children.result _
    c.from_residual-in_err-children.ensures.0

pub returns-in_err-children-clause-tree : goal.returns-in_err-children-clause-tree
returns-in_err-children-clause-tree c = IfOk-from_err c.from_residual-in_err-children.result _
    c.from_residual-in_err-children.ensures.0

pub returns-in_err-postings-clause-index : goal.returns-in_err-postings-clause-index
returns-in_err-postings-clause-index c = IfOk-from_err c.from_residual-in_err-postings.result _
    c.from_residual-in_err-postings.ensures.0

pub returns-in_err-postings-clause-tree : goal.returns-in_err-postings-clause-tree
returns-in_err-postings-clause-tree c = IfOk-from_err c.from_residual-in_err-postings.result _
    c.from_residual-in_err-postings.ensures.0

pub returns-in_err-push-clause-index : goal.returns-in_err-push-clause-index
returns-in_err-push-clause-index c = IfOk-from_err c.from_residual-in_err-push.result _
    c.from_residual-in_err-push.ensures.0

pub returns-in_err-push-clause-tree : goal.returns-in_err-push-clause-tree
returns-in_err-push-clause-tree c = IfOk-from_err c.from_residual-in_err-push.result _
    c.from_residual-in_err-push.ensures.0
