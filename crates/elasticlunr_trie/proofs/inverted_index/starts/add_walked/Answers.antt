use Rattle.std.proofs.Common.{◌≡◌, Result, Ok, Err, OnErr, map, take, sym, subst, arith}
use Rattle.std.proofs.lemmas.List.{take_all}
use Rattle.elasticlunr_trie_nodes.specs.Table.{AreChanged, additions}
use Rattle.elasticlunr_trie_nodes.specs.Trie.{table_of, IsIndex}
use Rattle.elasticlunr_trie_nodes.specs.Starts.{told}
use Rattle.elasticlunr_trie.proofs.Starts.{start_kept, changed_on, begun}
use Rattle.elasticlunr_trie.proofs.inverted_index.starts.add_walked.Goals as goal

on_err : {T E : Type 0} (r : Result T E) (P : Type 0) → P → OnErr r P
on_err (Ok x) P p = tt
on_err (Err e) P p = p

pub loop-start-preserved : goal.loop-start-preserved
loop-start-preserved c = (
  c.in_ok-add_start.ensures.index,
  (λ k d lt. start_kept _ _ c.in_ok-add_start.ensures.paths _ (c.loop-start.invariant.1 k d lt)),
  changed_on c.args.doc_ref.now c.args.starts.now c.loop-start.start-index _ _ _ _ (omega arith)
      c.loop-start.invariant.2 c.in_ok-add_start.ensures.ok,
  (λ t p e. c.in_ok-add_start.ensures.paths t p (c.loop-start.invariant.3 t p e)),
)

pub loop-start-init : goal.loop-start-init
loop-start-init c =
    let root = c.args.root.now.items in
    let are = c.deref.ensures.value in
    let there = subst (λ ns. IsIndex root ns c.args.names.now c.args.references.now.items) (sym are) c.requires.index in
    let same = subst (λ ns. table_of root ns c.make_room.new.names ≡ table_of root ns c.args.names.now) are
    (c.make_room.ensures.table root there) in (
      subst (λ ns. IsIndex root ns c.make_room.new.names c.make_room.new.references.items) are
          (c.make_room.ensures.index root there),
      c.requires.starts,
      same,
      (λ t p e. e),
    )

pub returns-clause-index : goal.returns-clause-index
returns-clause-index c = c.loop-start.invariant.0

pub returns-clause-ok : goal.returns-clause-ok
returns-clause-ok c =
    let old = table_of c.args.root.now.items c.args.nodes.now.items c.args.names.now in
    let new = table_of c.loop-start.root.items c.loop-start.nodes.items c.loop-start.names in
    subst (λ ss. AreChanged (additions c.args.doc_ref.now (map told ss)) old new)
    (take_all c.loop-start.start-index c.args.starts.now c.loop-start-test.false) c.loop-start.invariant.2

-- what kept this start out left the table as it was
pub returns-in_err-add_start-clause-err : goal.returns-in_err-add_start-clause-err
returns-in_err-add_start-clause-err c =
    let first = additions c.args.doc_ref.now (map told (take c.loop-start.start-index c.args.starts.now)) in
    let old = table_of c.args.root.now.items c.args.nodes.now.items c.args.names.now in
    let new = table_of c.add_start.new.root.items c.add_start.new.nodes.items c.add_start.new.names in
    on_err c.from_residual-in_err-add_start.result _
    (begun c.args.doc_ref.now c.args.starts.now c.loop-start.start-index old new
    (subst (AreChanged first old) (sym c.in_err-add_start.ensures.err) c.loop-start.invariant.2))

pub returns-clause-paths : goal.returns-clause-paths
returns-clause-paths c = c.loop-start.invariant.3
