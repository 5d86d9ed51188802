use Rattle.std.proofs.Common.{◌+◌, sym, ap, ◌∙◌, arith, subst, Some}
use Rattle.std.specs.FinMap.{entries}
use Rattle.std.proofs.lemmas.Result.{IfOk-from_err}
use Rattle.elasticlunr_trie_nodes.specs.Pairs.{IsStrictlySorted}
use Rattle.elasticlunr_trie_nodes.specs.Names.{AreNames, ArePostings, named_pairs}
use Rattle.elasticlunr_trie.specs.Children.{child}
use Rattle.elasticlunr_trie_nodes.specs.Nodes.{AreListed, IsListed, children_of, entries_of, postings_at}
use Rattle.elasticlunr_trie.specs.Compact.{KeepsBelow, kept_children}
use Rattle.elasticlunr_trie_nodes.specs.declared.nodes.Place.TheVariants.{At}
use Rattle.elasticlunr_trie_nodes.proofs.Places.{get_there}
use Rattle.elasticlunr_trie.proofs.Marks.{is_marked_or}
use Rattle.elasticlunr_trie_nodes.proofs.Named.{pairs_are, pairs_named, named_extended}
use Rattle.elasticlunr_trie_nodes.proofs.Gathered.{none_all_listed, listed_behind}
use Rattle.elasticlunr_trie.proofs.Compact.{none_kept, left_out, put_behind}
use Rattle.elasticlunr_trie.proofs.inverted_index.compact.keep_nodes.Goals as goal

pub loop-i-init : goal.loop-i-init
loop-i-init c = record {
  names_are = subst AreNames (sym c.requires.no_names)
      (record { distinct = λ n r e. absurd (cc); texts = λ n r e. absurd (cc) });
  listed = subst (λ ns. AreListed c.args.kept_names.now c.args.references.now.items ns) (sym c.new-kept.ensures.items)
      (none_all_listed c.args.kept_names.now c.args.references.now.items);
  kept = subst (λ ns. KeepsBelow c.args.marks.now c.args.names.now c.args.nodes.now c.args.kept_names.now ns 0)
      (sym c.new-kept.ensures.items) (none_kept c.args.marks.now c.args.names.now c.args.nodes.now
      c.args.kept_names.now);
}

pub keep_children-requires-clause-sorted : goal.keep_children-requires-clause-sorted
keep_children-requires-clause-sorted c =
    let here = get_there c.args.nodes.now c.loop-i.i c.index-nodes-i.result c.loop-i-test.true
    ∙ ap Some (sym c.index-nodes-i.is) in
    subst IsStrictlySorted (sym (c.as_slice.ensures ∙ sym (ap children_of here)))
    (c.requires.trie.in_order (At c.loop-i.i))

pub keep_children-requires-clause-in_range : goal.keep_children-requires-clause-in_range
keep_children-requires-clause-in_range c d k e =
    let here = get_there c.args.nodes.now c.loop-i.i c.index-nodes-i.result c.loop-i-test.true
    ∙ ap Some (sym c.index-nodes-i.is) in
    omega (
      arith,
      c.requires.trie.forest.is_node (At c.loop-i.i) d k
          (ap (λ es. child es d) (sym (c.as_slice.ensures ∙ sym (ap children_of here))) ∙ e),
      c.requires.marks,
    )

pub renumber-requires-clause-postings : goal.renumber-requires-clause-postings
renumber-requires-clause-postings c =
    let here = get_there c.args.nodes.now c.loop-i.i c.index-nodes-i.result c.loop-i-test.true
    ∙ ap Some (sym c.index-nodes-i.is) in
    subst (ArePostings c.args.names.now) (sym (ap (λ o. entries (entries_of o)) (sym here)))
    (pairs_are c.args.names.now (postings_at c.args.nodes.now c.loop-i.i) (c.requires.numbered c.loop-i.i))

pub loop-i-preserved-then-not-marks-i : goal.loop-i-preserved-then-not-marks-i
loop-i-preserved-then-not-marks-i c =
    let held = c.loop-i.invariant in
    record {
      names_are = held.names_are;
      listed = held.listed;
      kept = left_out c.args.marks.now c.args.names.now c.args.nodes.now c.loop-i.kept_names c.loop-i.kept.items
          c.loop-i.i held.kept (is_marked_or c.args.marks.now c.loop-i.i _
          (omega (arith, c.loop-i-test.true, c.requires.marks)) ∙ c.if-not-marks-i.true);
    }

pub loop-i-preserved : goal.loop-i-preserved
loop-i-preserved c =
    let held = c.loop-i.invariant in
    let nodes = c.args.nodes.now in
    let names = c.args.names.now in
    let marks = c.args.marks.now in
    let here = get_there nodes c.loop-i.i c.index-nodes-i.result c.loop-i-test.true
    ∙ ap Some (sym c.index-nodes-i.is) in
    let marked = is_marked_or marks c.loop-i.i _ (omega (arith, c.loop-i-test.true, c.requires.marks))
    ∙ c.if-not-marks-i.false in
    let new = c.renumber.new.names in
    let ok = c.in_ok-postings.ensures in
    let same = ok.same ∙ ap (named_pairs names) (ap (λ o. entries (entries_of o)) (sym here))
    ∙ sym (pairs_named names (postings_at nodes c.loop-i.i) (c.requires.numbered c.loop-i.i) c.requires.names) in
    let items = c.in_ok-push.ensures.items in
    record {
      names_are = ok.names;
      listed = subst (λ ns. AreListed new c.renumber.new.references.items ns) (sym items)
          (listed_behind c.loop-i.kept_names c.loop-i.references.items c.loop-i.kept.items held.listed new
          c.renumber.new.references.items ok.extends ok.keeps _
          (subst (λ k. IsListed new c.renumber.new.references.items k c.in_ok-postings.postings) (c.len.ensures
          ∙ c.loop-i.kept.ok.0) ok.listed));
      kept = subst (λ ns. KeepsBelow marks names nodes new ns (c.loop-i.i + 1)) (sym items)
          (put_behind marks names nodes c.loop-i.kept_names c.loop-i.kept.items c.loop-i.i held.kept _ marked
          (c.in_ok-children.ensures ∙ ap (kept_children marks) (c.as_slice.ensures ∙ sym (ap children_of here)))
          new same
          (λ k. named_extended c.loop-i.kept_names new (postings_at c.loop-i.kept.items k) ok.extends
          (held.listed.named k)));
    }

pub returns-in_err-children : goal.returns-in_err-children
returns-in_err-children c = record {
  names = IfOk-from_err c.from_residual.result _ c.from_residual.ensures.0;
  listed =
      IfOk-from_err c.from_residual.result _ c.from_residual.ensures.0;
  kept = IfOk-from_err c.from_residual.result _
      c.from_residual.ensures.0;
}

pub returns-in_err-postings : goal.returns-in_err-postings
returns-in_err-postings c = record {
  names = IfOk-from_err c.from_residual-in_err-postings.result _
      c.from_residual-in_err-postings.ensures.0;
  listed = IfOk-from_err c.from_residual-in_err-postings.result _
      c.from_residual-in_err-postings.ensures.0;
  kept = IfOk-from_err c.from_residual-in_err-postings.result _
      c.from_residual-in_err-postings.ensures.0;
}

pub returns-in_err-push : goal.returns-in_err-push
returns-in_err-push c = record {
  names = IfOk-from_err c.from_residual-in_err-push.result _
      c.from_residual-in_err-push.ensures.0;
  listed = IfOk-from_err c.from_residual-in_err-push.result _
      c.from_residual-in_err-push.ensures.0;
  kept = IfOk-from_err c.from_residual-in_err-push.result _
      c.from_residual-in_err-push.ensures.0;
}
