use Rattle.std.proofs.Common.{◌≡◌, ℕ, [], Result, Ok, Err, OnErr, sym, ap, subst, ◌∙◌, length}
use Rattle.std.specs.Str.{chars}
use Rattle.elasticlunr_error.specs.Text.{Text}
use Rattle.std.proofs.lemmas.Bool.{eqb-true, eq-eqb}
use mathlib.Core.Bool.{false≢true}
use Rattle.elasticlunr_trie_nodes.specs.Table.{AddsToken}
use Rattle.elasticlunr_trie_nodes.specs.Trie.{table_of}
use Rattle.elasticlunr_trie_nodes.proofs.Letters.{some_character, no_character}
use Rattle.elasticlunr_trie.proofs.TokenCache.{ends_kept}
use Rattle.std.proofs.Common.{rules}
use Rattle.elasticlunr_trie.proofs.inverted_index.InvertedIndex.add_token.Goals as goal

on_err : {T E : Type 0} (r : Result T E) (P : Type 0) → P → OnErr r P
on_err (Ok x) P p = tt
on_err (Err e) P p = p

pub returns-then-is_empty-clause-ok : goal.returns-then-is_empty-clause-ok
returns-then-is_empty-clause-ok c some = absurd (some (no_character _ (eqb-true _ 0 (sym c.if-is_empty.ensures))))

-- a token that is not empty has a character
pub add_posting-requires-clause-not_empty : goal.add_posting-requires-clause-not_empty
add_posting-requires-clause-not_empty c none =
    let none : chars c.args.token.now ≡ [] = sym (ap (λ (t : Text × ℕ). t.0) c.new-2.ensures.told) ∙ none in
    absurd (false≢true (c.if-is_empty.ensures
    ∙ eq-eqb (length c.args.token.now) 0 (some_character c.args.token.now c.utf8.token none)))

pub returns-in_err-add_posting-clause-empty_token : goal.returns-in_err-add_posting-clause-empty_token
returns-in_err-add_posting-clause-empty_token c none =
    absurd (false≢true (c.if-is_empty.ensures
    ∙ eq-eqb (length c.args.token.now) 0 (some_character c.args.token.now c.utf8.token none)))

pub returns-in_err-add_posting-clause-err : goal.returns-in_err-add_posting-clause-err
returns-in_err-add_posting-clause-err c = on_err c.from_residual.result _ (c.in_err-add_posting.ensures.err
    ∙ c.self.view_is)

pub returns-clause-empty_token : goal.returns-clause-empty_token
returns-clause-empty_token c none =
    absurd (false≢true (c.if-is_empty.ensures
    ∙ eq-eqb (length c.args.token.now) 0 (some_character c.args.token.now c.utf8.token none)))

-- the start tells the token and the frequency
pub returns-clause-ok : goal.returns-clause-ok
returns-clause-ok c _ =
    let after = table_of c.add_posting.new.root.items c.add_posting.new.nodes.items c.add_posting.new.names in
    subst (λ (t : Text × ℕ). AddsToken c.args.self.now after t.0 c.args.doc_ref.now t.1) c.new-2.ensures.told
    (subst (λ T. AddsToken T after (chars c.new-2.result.token.now) c.args.doc_ref.now c.new-2.result.frequency)
    c.self.view_is c.in_ok-add_posting.ensures.ok)

pub invariant_of-self-2 : goal.invariant_of-self-2
invariant_of-self-2 c = (
  c.in_ok-add_posting.ensures.index,
  rw c.replace-ends.ensures.value
      (ends_kept _ _ c.self.inside.ends c.in_ok-add_posting.ensures.paths c.self.invariant.1),
)

pub returns-then-is_empty-clause-empty_token : goal.returns-then-is_empty-clause-empty_token
returns-then-is_empty-clause-empty_token c = search rules

pub invariant_of-self : goal.invariant_of-self
invariant_of-self c = search rules
