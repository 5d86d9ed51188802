use Rattle.std.proofs.Common.{◌≤◌, length, OnErr, Result, Ok, Err, refl, sym, ap, subst, ◌∙◌, arith}
use Rattle.std.specs.FinMap.{get}
use Rattle.std.proofs.lemmas.Result.{IfOk-from_err}
use Rattle.elasticlunr_trie_nodes.specs.Names.{AreNames, number_of}
use Rattle.elasticlunr_trie_nodes.specs.Nodes.{AreListed, SetsPosting, SamePostings}
use Rattle.elasticlunr_trie_nodes.proofs.Added as added
use Rattle.elasticlunr_trie.proofs.inverted_index.add.set_posting.Goals as goal

on_err : {T E : Type 0} (r : Result T E) (P : Type 0) → P → OnErr r P
on_err (Ok x) P p = tt
on_err (Err e) P p = p

pub list_node-requires : goal.list_node-requires
list_node-requires c = λ f e.
    let here = rw c.deref.ensures.value at c.postings_at.ensures in
    c.requires.listed.listed c.args.k c.in_ok-number.number f (ap (λ P. get P c.in_ok-number.number) (sym here) ∙ e)

pub returns-in_err-list_node-clause-err : goal.returns-in_err-list_node-clause-err
returns-in_err-list_node-clause-err c =
    on_err _ _ (subst (λ ns. SamePostings c.args.names.now ns c.args.nodes.now.items c.args.nodes.now.items)
    (sym c.in_ok-number.ensures.names)
    (added.same_postings c.args.names.now c.args.references.now.items c.args.nodes.now.items c.requires.listed
    c.args.doc_ref.now c.args.nodes.now.items
    (record { shape = record { count = refl; children = λ k. refl }; postings = λ k. refl })))

pub returns-in_err-set_number-clause-err : goal.returns-in_err-set_number-clause-err
returns-in_err-set_number-clause-err c =
    on_err _ _ (subst (λ ns. SamePostings c.args.names.now ns c.args.nodes.now.items c.set_number.new.nodes.items)
    (sym c.in_ok-number.ensures.names)
    (added.same_postings c.args.names.now c.args.references.now.items c.args.nodes.now.items c.requires.listed
    c.args.doc_ref.now c.set_number.new.nodes.items c.in_err-set_number.ensures.err))

pub returns-clause-listed : goal.returns-clause-listed
returns-clause-listed c =
    let more : length c.args.names.now ≤ length c.enter.new.self =
    omega (
      arith,
      added.length-entered c.args.names.now c.args.doc_ref.now _ refl,
      ap length c.in_ok-number.ensures.names,
    ) in
    added.set_listed c.args.names.now c.args.references.now.items c.args.nodes.now.items c.requires.listed
    c.set_number.new.nodes.items c.args.k c.in_ok-number.number c.args.frequency c.in_ok-set_number.ensures.ok
    c.enter.new.self c.list_node.new.references.items
    more c.list_node.ensures.keeps (added.number-below c.enter.new.self c.args.doc_ref.now _
    c.in_ok-number.ensures.number) c.ranges.frequency.fits c.in_ok-list_node.ensures.lists

pub returns-clause-ok : goal.returns-clause-ok
returns-clause-ok c =
    subst (λ ns. SetsPosting c.args.names.now ns c.args.nodes.now.items c.set_number.new.nodes.items c.args.k
    c.args.doc_ref.now c.args.frequency) (sym c.in_ok-number.ensures.names)
    (added.set_posting c.args.names.now c.args.references.now.items c.args.nodes.now.items c.requires.listed
    c.set_number.new.nodes.items c.args.k c.in_ok-number.number c.args.frequency c.in_ok-set_number.ensures.ok
    c.args.doc_ref.now
    (sym (ap (λ ns. number_of ns c.args.doc_ref.now) c.in_ok-number.ensures.names) ∙ c.in_ok-number.ensures.number))

pub returns-in_err-list_node-clause-names : goal.returns-in_err-list_node-clause-names
returns-in_err-list_node-clause-names c = λ are. subst AreNames (sym c.in_ok-number.ensures.names)
    (added.names_entered c.args.names.now are c.args.doc_ref.now c.utf8.doc_ref)

pub returns-in_err-set_number-clause-names : goal.returns-in_err-set_number-clause-names
returns-in_err-set_number-clause-names c = λ are. subst AreNames (sym c.in_ok-number.ensures.names)
    (added.names_entered c.args.names.now are c.args.doc_ref.now c.utf8.doc_ref)

pub returns-clause-names : goal.returns-clause-names
returns-clause-names c = λ are. subst AreNames (sym c.in_ok-number.ensures.names)
    (added.names_entered c.args.names.now are c.args.doc_ref.now c.utf8.doc_ref)

pub returns-in_err-number-clause-names : goal.returns-in_err-number-clause-names
returns-in_err-number-clause-names c = λ are. subst AreNames (sym c.in_err-number.ensures.err) are

pub returns-in_err-number-clause-listed : goal.returns-in_err-number-clause-listed
returns-in_err-number-clause-listed c = subst (λ ns. AreListed ns c.args.references.now.items c.args.nodes.now.items)
    (sym c.in_err-number.ensures.err) c.requires.listed

pub returns-in_err-number-clause-ok : goal.returns-in_err-number-clause-ok
returns-in_err-number-clause-ok c = IfOk-from_err c.from_residual.result _ c.from_residual.ensures.0

pub returns-in_err-list_node-clause-ok : goal.returns-in_err-list_node-clause-ok
returns-in_err-list_node-clause-ok c = IfOk-from_err c.from_residual-in_err-list_node.result _
    c.from_residual-in_err-list_node.ensures.0

pub returns-in_err-set_number-clause-ok : goal.returns-in_err-set_number-clause-ok
returns-in_err-set_number-clause-ok c = IfOk-from_err c.from_residual-in_err-set_number.result _
    c.from_residual-in_err-set_number.ensures.0
