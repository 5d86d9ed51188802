use Rattle.std.proofs.Common.{◌≡◌, ◌+◌, ◌-◌, ◌≤◌, suc, IsTrue, Result, Ok, Err, OnErr, length, refl, sym, ap, subst}
use Rattle.std.proofs.Common.{arith}
use Rattle.std.specs.Str.{chars}
use Rattle.std.proofs.lemmas.Result.{IfOk-from_err}
use Rattle.elasticlunr_trie_nodes.specs.Names.{AreNames}
use Rattle.elasticlunr_trie_nodes.specs.Nodes.{has, list_at}
use Rattle.elasticlunr_trie_nodes.specs.Trie.{step_of, IsIndex}
use Rattle.elasticlunr_trie_nodes.specs.Branch.{IsBranch}
use Rattle.elasticlunr_trie_nodes.specs.declared.nodes.Place.TheVariants.{Root}
use Rattle.elasticlunr_trie_nodes.proofs.Forest.{within}
use Rattle.elasticlunr_trie_nodes.proofs.Added.{names_entered, length-entered, number-below}
use Rattle.elasticlunr_trie.proofs.Growth.{branch_trie, branch_parents, branch_listed, branch_added, branch_paths}
use Rattle.elasticlunr_trie_nodes.proofs.Unseen.{kept_index, kept_table, keeps_same, same_trie, kept_at, branch_length}
use Rattle.elasticlunr_trie.proofs.inverted_index.add.grow.Goals as goal

on_err : {T E : Type 0} (r : Result T E) (P : Type 0) → P → OnErr r P
on_err (Ok x) P p = tt
on_err (Err e) P p = p

pub returns-in_err-branch-clause-err : goal.returns-in_err-branch-clause-err
returns-in_err-branch-clause-err c =
    on_err c.from_residual-in_err-branch.result _
    (kept_table c.args.root.now.items c.args.nodes.now.items c.args.names.now c.args.references.now.items
    c.requires.index c.args.doc_ref.now _ c.in_ok-number.ensures.names _ _
    (same_trie c.args.root.now.items c.args.nodes.now.items))

pub returns-in_err-list_new-clause-index : goal.returns-in_err-list_new-clause-index
returns-in_err-list_new-clause-index c =
    kept_index c.args.root.now.items c.args.nodes.now.items c.args.names.now c.args.references.now.items
    c.requires.index c.args.doc_ref.now _ c.in_ok-number.ensures.names _ _
    (same_trie c.args.root.now.items c.args.nodes.now.items) c.utf8.doc_ref _ c.list_new.ensures.keeps

pub returns-in_err-list_new-clause-err : goal.returns-in_err-list_new-clause-err
returns-in_err-list_new-clause-err c =
    on_err c.from_residual-in_err-list_new.result _
    (kept_table c.args.root.now.items c.args.nodes.now.items c.args.names.now c.args.references.now.items
    c.requires.index c.args.doc_ref.now _ c.in_ok-number.ensures.names _ _
    (same_trie c.args.root.now.items c.args.nodes.now.items))

pub attach-requires-clause-in_range : goal.attach-requires-clause-in_range
attach-requires-clause-in_range c =
    within (step_of c.args.root.now.items c.args.nodes.now.items) (length c.args.nodes.now.items)
    c.requires.index.trie.forest c.requires.leads.0 Root c.args.place (omega arith) c.requires.leads.1

pub returns-in_err-attach-clause-index : goal.returns-in_err-attach-clause-index
returns-in_err-attach-clause-index c =
    kept_index c.args.root.now.items c.args.nodes.now.items c.args.names.now c.args.references.now.items
    c.requires.index c.args.doc_ref.now _ c.in_ok-number.ensures.names _ _ c.in_err-attach.ensures.err
    c.utf8.doc_ref _ c.list_new.ensures.keeps

pub returns-in_err-attach-clause-err : goal.returns-in_err-attach-clause-err
returns-in_err-attach-clause-err c =
    on_err c.from_residual-in_err-attach.result _
    (kept_table c.args.root.now.items c.args.nodes.now.items c.args.names.now c.args.references.now.items
    c.requires.index c.args.doc_ref.now _ c.in_ok-number.ensures.names _ _ c.in_err-attach.ensures.err)

pub returns-clause-index : goal.returns-clause-index
returns-clause-index c =
    let number : c.len-first.result + 1 ≡ suc (length c.args.nodes.now.items) =
    omega (arith, c.len-first.ensures, c.args.nodes.now.ok.0) in
    let made = subst (λ n. IsBranch n (chars c.args.rest.now) c.in_ok-number.number c.args.term_freq
    c.in_ok-branch.branch.items) number c.in_ok-branch.ensures in
    let last : c.len-first.result + (c.len.result - 1) ≡ length c.args.nodes.now.items + length (chars c.args.rest.now)
    = omega (
      arith,
      c.len-first.ensures,
      c.args.nodes.now.ok.0,
      c.len.ensures,
      c.in_ok-branch.branch.ok.0,
      branch_length _ _ _ _ _ made,
    ) in
    let listed = subst (λ x. IsTrue (has (list_at c.list_new.new.references.items c.in_ok-number.number) x)) last
    c.in_ok-list_new.ensures.lists in
    let more : length c.args.names.now ≤ length c.enter.new.self =
    omega (
      arith,
      length-entered c.args.names.now c.args.doc_ref.now _ refl,
      ap length c.in_ok-number.ensures.names,
    ) in
    record {
      names_are = subst AreNames (sym c.in_ok-number.ensures.names)
          (names_entered c.args.names.now c.requires.index.names_are c.args.doc_ref.now c.utf8.doc_ref);
      trie = branch_trie c.args.root.now.items c.args.nodes.now.items c.requires.index.trie _ _ c.args.place
          c.requires.leads.0 c.args.c (chars c.args.rest.now) c.in_ok-number.number c.args.term_freq
          c.in_ok-branch.branch.items c.requires.leads.1 c.requires.free c.in_ok-attach.ensures.ok made
          c.requires.letters;
      parents = branch_parents c.args.root.now.items c.args.nodes.now.items c.requires.index.trie _ _ c.args.place
          c.requires.leads.0 c.args.c (chars c.args.rest.now) c.in_ok-number.number c.args.term_freq
          c.in_ok-branch.branch.items c.requires.leads.1 c.requires.free c.in_ok-attach.ensures.ok made
          c.requires.letters c.requires.index.parents;
      listed = branch_listed c.args.root.now.items c.args.nodes.now.items c.requires.index.trie _ _ c.args.place
          c.requires.leads.0 c.args.c (chars c.args.rest.now) c.in_ok-number.number c.args.term_freq
          c.in_ok-branch.branch.items c.requires.leads.1 c.requires.free c.in_ok-attach.ensures.ok made
          c.requires.letters
          c.args.names.now c.enter.new.self c.args.references.now.items c.list_new.new.references.items
          c.requires.index.listed more c.list_new.ensures.keeps
          (number-below c.enter.new.self c.args.doc_ref.now _ c.in_ok-number.ensures.number)
          c.ranges.term_freq.fits listed;
    }

pub returns-clause-ok : goal.returns-clause-ok
returns-clause-ok c = λ front leads.
    let number : c.len-first.result + 1 ≡ suc (length c.args.nodes.now.items) =
    omega (arith, c.len-first.ensures, c.args.nodes.now.ok.0) in
    let made = subst (λ n. IsBranch n (chars c.args.rest.now) c.in_ok-number.number c.args.term_freq
    c.in_ok-branch.branch.items) number c.in_ok-branch.ensures in
    branch_added c.args.root.now.items c.args.nodes.now.items c.requires.index.trie _ _ c.args.place front c.args.c
    (chars c.args.rest.now) c.in_ok-number.number c.args.term_freq c.in_ok-branch.branch.items leads
    c.requires.free c.in_ok-attach.ensures.ok made c.requires.letters
    c.args.names.now c.enter.new.self c.args.doc_ref.now c.in_ok-number.ensures.number
    (kept_at c.args.root.now.items c.args.nodes.now.items c.args.names.now c.args.references.now.items
    c.requires.index.listed c.args.doc_ref.now c.enter.new.self c.in_ok-number.ensures.names)

-- no path that was there is new
pub returns-clause-paths : goal.returns-clause-paths
returns-clause-paths c =
    let number : c.len-first.result + 1 ≡ suc (length c.args.nodes.now.items) =
    omega (arith, c.len-first.ensures, c.args.nodes.now.ok.0) in
    let made = subst (λ n. IsBranch n (chars c.args.rest.now) c.in_ok-number.number c.args.term_freq
    c.in_ok-branch.branch.items) number c.in_ok-branch.ensures in
    branch_paths c.args.root.now.items c.args.nodes.now.items c.requires.index.trie _ _ c.args.place c.requires.leads.0
    c.args.c (chars c.args.rest.now) c.in_ok-number.number c.args.term_freq c.in_ok-branch.branch.items
    c.requires.leads.1 c.requires.free c.in_ok-attach.ensures.ok made c.requires.letters

pub returns-in_err-branch-clause-index : goal.returns-in_err-branch-clause-index
returns-in_err-branch-clause-index c =
    kept_index c.args.root.now.items c.args.nodes.now.items c.args.names.now c.args.references.now.items
    c.requires.index c.args.doc_ref.now _ c.in_ok-number.ensures.names _ _
    (same_trie c.args.root.now.items c.args.nodes.now.items) c.utf8.doc_ref _
    (keeps_same c.args.references.now.items)

pub returns-in_err-number-clause-index : goal.returns-in_err-number-clause-index
returns-in_err-number-clause-index c = subst (λ names. IsIndex c.args.root.now.items c.args.nodes.now.items names
    c.args.references.now.items) (sym c.in_err-number.ensures.err) c.requires.index

pub returns-in_err-number-clause-ok : goal.returns-in_err-number-clause-ok
returns-in_err-number-clause-ok c = IfOk-from_err c.from_residual.result _ c.from_residual.ensures.0

pub returns-in_err-number-clause-paths : goal.returns-in_err-number-clause-paths
returns-in_err-number-clause-paths c = IfOk-from_err c.from_residual.result _ c.from_residual.ensures.0

pub returns-in_err-branch-clause-ok : goal.returns-in_err-branch-clause-ok
returns-in_err-branch-clause-ok c = IfOk-from_err c.from_residual-in_err-branch.result _
    c.from_residual-in_err-branch.ensures.0

pub returns-in_err-branch-clause-paths : goal.returns-in_err-branch-clause-paths
returns-in_err-branch-clause-paths c = IfOk-from_err c.from_residual-in_err-branch.result _
    c.from_residual-in_err-branch.ensures.0

pub returns-in_err-list_new-clause-ok : goal.returns-in_err-list_new-clause-ok
returns-in_err-list_new-clause-ok c = IfOk-from_err c.from_residual-in_err-list_new.result _
    c.from_residual-in_err-list_new.ensures.0

pub returns-in_err-list_new-clause-paths : goal.returns-in_err-list_new-clause-paths
returns-in_err-list_new-clause-paths c = IfOk-from_err c.from_residual-in_err-list_new.result _
    c.from_residual-in_err-list_new.ensures.0

pub returns-in_err-attach-clause-ok : goal.returns-in_err-attach-clause-ok
returns-in_err-attach-clause-ok c = IfOk-from_err c.from_residual-in_err-attach.result _
    c.from_residual-in_err-attach.ensures.0

pub returns-in_err-attach-clause-paths : goal.returns-in_err-attach-clause-paths
returns-in_err-attach-clause-paths c = IfOk-from_err c.from_residual-in_err-attach.result _
    c.from_residual-in_err-attach.ensures.0
