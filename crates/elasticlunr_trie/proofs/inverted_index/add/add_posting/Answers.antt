use Rattle.std.proofs.Common.{◌≤◌, ◌+◌, ◌++◌, Some, Result, Ok, Err, OnErr, sym, ap, subst, ◌∙◌, arith, length}
use Rattle.std.proofs.Common.{append-nil}
use Rattle.std.specs.Prelude.{encode_utf8}
use Rattle.std.proofs.lemmas.List.{nil_from_length}
use Rattle.std.specs.Str.{all_scalars}
use Rattle.std.proofs.lemmas.Str.{scalars-chars}
use Rattle.std.proofs.lemmas.Result.{IfOk-from_err}
use Rattle.elasticlunr_trie_nodes.specs.Table.{AddsToken}
use Rattle.elasticlunr_trie_nodes.specs.Trie.{step_of, table_of}
use Rattle.elasticlunr_trie_nodes.specs.declared.nodes.Place.TheVariants.{Root, At}
use Rattle.elasticlunr_trie_nodes.proofs.Forest.{within, rises}
use Rattle.elasticlunr_trie_nodes.proofs.Letters.{first_read, nothing_read}
use Rattle.elasticlunr_trie_nodes.proofs.Settled.{settled_trie, settled_parents, settled_paths, unseen, posting_added}
use Rattle.elasticlunr_trie.proofs.inverted_index.add.add_posting.Goals as goal

on_err : {T E : Type 0} (r : Result T E) (P : Type 0) → P → OnErr r P
on_err (Ok x) P p = tt
on_err (Err e) P p = p

pub grow-requires-clause-leads : goal.grow-requires-clause-leads
grow-requires-clause-leads c =
    let at = rw (c.deref.ensures.value, c.deref-2.ensures.value) at c.locate-place.ensures.at in
    (at.known, at.leads)

pub grow-requires-clause-free : goal.grow-requires-clause-free
grow-requires-clause-free c =
    let at = rw (c.deref.ensures.value, c.deref-2.ensures.value) at c.locate-place.ensures.at in
    at.ends c.in-Some.c _ (first_read _ _ _ c.in-Some.c c.locate-place.ensures.text c.chars-letters.ensures.rest
    c.in-Some.ensures.steps.0)

pub grow-requires-clause-letters : goal.grow-requires-clause-letters
grow-requires-clause-letters c =
    let first = first_read _ _ c.as_str.result.now c.in-Some.c c.locate-place.ensures.text c.chars-letters.ensures.rest
    (c.in-Some.ensures.steps.0 ∙ ap (λ t. encode_utf8 c.in-Some.c ++ t) (sym c.as_str.ensures)) in
    sym (ap all_scalars first) ∙ scalars-chars c.locate-place.result.1.now c.locate-place.ensures.text

pub set_posting-requires-clause-in_range : goal.set_posting-requires-clause-in_range
set_posting-requires-clause-in_range c =
    let at = rw (c.deref.ensures.value, c.deref-2.ensures.value) at c.locate-place.ensures.at in
    within (step_of c.args.root.now.items c.args.nodes.now.items) (length c.args.nodes.now.items)
    c.requires.index.trie.forest at.known Root (At c.in-At.k) (omega arith) (at.leads ∙ ap Some c.in-At.is)

pub returns-in_ok-grow-in-Some-clause-ok : goal.returns-in_ok-grow-in-Some-clause-ok
returns-in_ok-grow-in-Some-clause-ok c =
    let at = rw (c.deref.ensures.value, c.deref-2.ensures.value) at c.locate-place.ensures.at in
    let first = first_read _ _ c.as_str.result.now c.in-Some.c c.locate-place.ensures.text c.chars-letters.ensures.rest
    (c.in-Some.ensures.steps.0 ∙ ap (λ t. encode_utf8 c.in-Some.c ++ t) (sym c.as_str.ensures)) in
    let whole = at.split ∙ ap (λ t. at.known ++ t) first in
    subst (λ t. AddsToken (table_of c.args.root.now.items c.args.nodes.now.items c.args.names.now)
    (table_of c.grow.new.root.items c.grow.new.nodes.items c.grow.new.names) t c.args.doc_ref.now
    c.args.start.frequency) (sym whole)
    (c.in_ok-grow-in-Some.ensures.ok at.known at.leads)

-- the empty token alone leads to the root
pub returns-in-Root-clause-ok : goal.returns-in-Root-clause-ok
returns-in-Root-clause-ok c =
    let at = rw (c.deref.ensures.value, c.deref-2.ensures.value) at c.locate-place.ensures.at in
    let end = nothing_read _ _ c.chars-letters.ensures.rest c.in-None.ensures.steps.0.0 in
    let short : 0 + length at.known ≤ 0 = rises (step_of c.args.root.now.items c.args.nodes.now.items)
    (length c.args.nodes.now.items) c.requires.index.trie.forest at.known Root Root (at.leads
    ∙ ap Some c.in-Root.is) in
    absurd (c.requires.not_empty (at.split ∙ ap (λ t. at.known ++ t) end ∙ append-nil at.known
    ∙ nil_from_length at.known (omega arith)))

pub returns-in_err-set_posting-in-At-clause-index : goal.returns-in_err-set_posting-in-At-clause-index
returns-in_err-set_posting-in-At-clause-index c = record {
  trie = settled_trie c.args.root.now.items c.args.nodes.now.items c.requires.index.trie _
      c.in_err-set_posting-in-At.ensures.err.shape;
  parents = settled_parents c.args.root.now.items c.args.nodes.now.items c.requires.index.trie _
      c.in_err-set_posting-in-At.ensures.err.shape c.requires.index.parents;
  names_are = c.set_posting.ensures.names c.requires.index.names_are;
  listed = c.set_posting.ensures.listed;
}

pub returns-in_err-set_posting-in-At-clause-err : goal.returns-in_err-set_posting-in-At-clause-err
returns-in_err-set_posting-in-At-clause-err c =
    on_err _ _ (unseen c.args.root.now.items c.args.nodes.now.items c.requires.index.trie c.args.names.now
    c.set_posting.new.names c.set_posting.new.nodes.items c.in_err-set_posting-in-At.ensures.err)

pub returns-in_ok-set_posting-in-At-clause-index : goal.returns-in_ok-set_posting-in-At-clause-index
returns-in_ok-set_posting-in-At-clause-index c = record {
  trie = settled_trie c.args.root.now.items c.args.nodes.now.items c.requires.index.trie _
      c.in_ok-set_posting-in-At.ensures.ok.shape;
  parents = settled_parents c.args.root.now.items c.args.nodes.now.items c.requires.index.trie _
      c.in_ok-set_posting-in-At.ensures.ok.shape c.requires.index.parents;
  names_are = c.set_posting.ensures.names c.requires.index.names_are;
  listed = c.set_posting.ensures.listed;
}

pub returns-in_ok-set_posting-in-At-clause-ok : goal.returns-in_ok-set_posting-in-At-clause-ok
returns-in_ok-set_posting-in-At-clause-ok c =
    let at = rw (c.deref.ensures.value, c.deref-2.ensures.value) at c.locate-place.ensures.at in
    let end = nothing_read _ _ c.chars-letters.ensures.rest c.in-None.ensures.steps.0.0 in
    let whole = at.split ∙ ap (λ t. at.known ++ t) end ∙ append-nil at.known in
    let place = at.leads ∙ ap Some c.in-At.is in
    let in_range = within (step_of c.args.root.now.items c.args.nodes.now.items) (length c.args.nodes.now.items)
    c.requires.index.trie.forest at.known Root (At c.in-At.k) (omega arith) place in
    subst (λ t. AddsToken (table_of c.args.root.now.items c.args.nodes.now.items c.args.names.now)
    (table_of c.args.root.now.items c.set_posting.new.nodes.items c.set_posting.new.names) t c.args.doc_ref.now
    c.args.start.frequency) (sym whole)
    (posting_added c.args.root.now.items c.args.nodes.now.items c.requires.index.trie c.args.names.now
    c.set_posting.new.names c.set_posting.new.nodes.items c.in-At.k c.args.doc_ref.now c.args.start.frequency
    c.in_ok-set_posting-in-At.ensures.ok at.known in_range place)

pub returns-in_ok-set_posting-in-At-clause-paths : goal.returns-in_ok-set_posting-in-At-clause-paths
returns-in_ok-set_posting-in-At-clause-paths c = settled_paths c.args.root.now.items c.args.nodes.now.items
    c.requires.index.trie _ c.in_ok-set_posting-in-At.ensures.ok.shape

pub returns-in_err-grow-in-Some-clause-ok : goal.returns-in_err-grow-in-Some-clause-ok
returns-in_err-grow-in-Some-clause-ok c = IfOk-from_err c.from_residual.result _ c.from_residual.ensures.0

pub returns-in_err-grow-in-Some-clause-paths : goal.returns-in_err-grow-in-Some-clause-paths
returns-in_err-grow-in-Some-clause-paths c = IfOk-from_err c.from_residual.result _ c.from_residual.ensures.0

pub returns-in_err-set_posting-in-At-clause-ok : goal.returns-in_err-set_posting-in-At-clause-ok
returns-in_err-set_posting-in-At-clause-ok c = IfOk-from_err c.from_residual-in_err-set_posting-in-At.result _
    c.from_residual-in_err-set_posting-in-At.ensures.0
