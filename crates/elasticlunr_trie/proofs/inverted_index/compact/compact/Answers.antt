use Rattle.std.proofs.Common.{ap, ◌∙◌, arith, subst, length}
use Rattle.std.proofs.lemmas.Result.{IfOk-from_err}
use Rattle.elasticlunr_trie.specs.Compact.{KeepsBelow, kept_children}
use Rattle.elasticlunr_trie_nodes.specs.declared.nodes.Place.TheVariants.{Root}
use Rattle.elasticlunr_trie.proofs.Compact.{below_trie, compact_trie, compact_parents, compact_known, compact_postings}
use Rattle.elasticlunr_trie.proofs.inverted_index.compact.compact.Goals as goal

pub bearing-requires : goal.bearing-requires
bearing-requires c = below_trie c.args.root.now c.args.nodes.now c.requires.trie

pub keep_children-requires-clause-sorted : goal.keep_children-requires-clause-sorted
keep_children-requires-clause-sorted c = c.requires.trie.in_order Root

pub keep_children-requires-clause-in_range : goal.keep_children-requires-clause-in_range
keep_children-requires-clause-in_range c d k e =
    omega (
      arith,
      c.requires.trie.forest.is_node Root d k e,
      ap length c.deref-2.ensures.value,
      c.in_ok-marks.ensures.count,
    )

pub keep_nodes-requires-clause-trie : goal.keep_nodes-requires-clause-trie
keep_nodes-requires-clause-trie c = below_trie c.args.root.now c.args.nodes.now c.requires.trie

pub returns-clause-index : goal.returns-clause-index
returns-clause-index c =
    let nodes = c.args.nodes.now in
    let is = c.in_ok-kept_root.ensures ∙ c.in_ok-children.ensures
    ∙ ap (λ m. kept_children m c.args.root.now) c.deref-2.ensures.value in
    let keeps = subst (λ m. KeepsBelow m c.args.names.now nodes c.keep_nodes.new.kept_names c.in_ok-kept.kept.items
    (length nodes)) c.deref-4.ensures.value c.in_ok-kept.ensures.kept in
    record {
      trie = compact_trie c.args.root.now c.args.nodes.now c.requires.trie c.args.names.now c.in_ok-marks.marks.items
          c.in_ok-marks.ensures.each c.keep_nodes.new.kept_names c.in_ok-kept_root.kept_root.items
          c.in_ok-kept.kept.items is keeps c.requires.names c.requires.numbered;
      parents = compact_parents c.args.root.now c.args.nodes.now c.requires.trie c.args.names.now
          c.in_ok-marks.marks.items c.in_ok-marks.ensures.each c.keep_nodes.new.kept_names
          c.in_ok-kept_root.kept_root.items c.in_ok-kept.kept.items is keeps c.requires.names c.requires.numbered
          c.requires.parents;
      names_are = c.in_ok-kept.ensures.names;
      listed = c.in_ok-kept.ensures.listed;
    }

pub returns-clause-known : goal.returns-clause-known
returns-clause-known c =
    let nodes = c.args.nodes.now in
    let is = c.in_ok-kept_root.ensures ∙ c.in_ok-children.ensures
    ∙ ap (λ m. kept_children m c.args.root.now) c.deref-2.ensures.value in
    let keeps = subst (λ m. KeepsBelow m c.args.names.now nodes c.keep_nodes.new.kept_names c.in_ok-kept.kept.items
    (length nodes)) c.deref-4.ensures.value c.in_ok-kept.ensures.kept in
    compact_known c.args.root.now c.args.nodes.now c.requires.trie c.args.names.now c.in_ok-marks.marks.items
    c.in_ok-marks.ensures.each c.keep_nodes.new.kept_names c.in_ok-kept_root.kept_root.items
    c.in_ok-kept.kept.items is keeps c.requires.names c.requires.numbered

pub returns-clause-postings : goal.returns-clause-postings
returns-clause-postings c =
    let nodes = c.args.nodes.now in
    let is = c.in_ok-kept_root.ensures ∙ c.in_ok-children.ensures
    ∙ ap (λ m. kept_children m c.args.root.now) c.deref-2.ensures.value in
    let keeps = subst (λ m. KeepsBelow m c.args.names.now nodes c.keep_nodes.new.kept_names c.in_ok-kept.kept.items
    (length nodes)) c.deref-4.ensures.value c.in_ok-kept.ensures.kept in
    compact_postings c.args.root.now c.args.nodes.now c.requires.trie c.args.names.now c.in_ok-marks.marks.items
    c.in_ok-marks.ensures.each c.keep_nodes.new.kept_names c.in_ok-kept_root.kept_root.items
    c.in_ok-kept.kept.items is keeps c.requires.names c.requires.numbered

pub returns-in_err-marks : goal.returns-in_err-marks
returns-in_err-marks c = record {
  index = IfOk-from_err c.from_residual.result _ c.from_residual.ensures.0;
  known =
      IfOk-from_err c.from_residual.result _ c.from_residual.ensures.0;
  postings = IfOk-from_err c.from_residual.result
      _ c.from_residual.ensures.0;
}

pub returns-in_err-numbers : goal.returns-in_err-numbers
returns-in_err-numbers c = record {
  index = IfOk-from_err c.from_residual-in_err-numbers.result _
      c.from_residual-in_err-numbers.ensures.0;
  known = IfOk-from_err c.from_residual-in_err-numbers.result _
      c.from_residual-in_err-numbers.ensures.0;
  postings = IfOk-from_err c.from_residual-in_err-numbers.result _
      c.from_residual-in_err-numbers.ensures.0;
}

pub returns-in_err-children : goal.returns-in_err-children
returns-in_err-children c = record {
  index = IfOk-from_err c.from_residual-in_err-children.result _
      c.from_residual-in_err-children.ensures.0;
  known = IfOk-from_err c.from_residual-in_err-children.result _
      c.from_residual-in_err-children.ensures.0;
  postings = IfOk-from_err c.from_residual-in_err-children.result _
      c.from_residual-in_err-children.ensures.0;
}

pub returns-in_err-kept_root : goal.returns-in_err-kept_root
returns-in_err-kept_root c = record {
  index = IfOk-from_err c.from_residual-in_err-kept_root.result _
      c.from_residual-in_err-kept_root.ensures.0;
  known = IfOk-from_err c.from_residual-in_err-kept_root.result _
      c.from_residual-in_err-kept_root.ensures.0;
  postings = IfOk-from_err c.from_residual-in_err-kept_root.result _
      c.from_residual-in_err-kept_root.ensures.0;
}

pub returns-in_err-kept : goal.returns-in_err-kept
returns-in_err-kept c = record {
  index = IfOk-from_err c.from_residual-in_err-kept.result _
      c.from_residual-in_err-kept.ensures.0;
  known = IfOk-from_err c.from_residual-in_err-kept.result _
      c.from_residual-in_err-kept.ensures.0;
  postings = IfOk-from_err c.from_residual-in_err-kept.result _
      c.from_residual-in_err-kept.ensures.0;
}
