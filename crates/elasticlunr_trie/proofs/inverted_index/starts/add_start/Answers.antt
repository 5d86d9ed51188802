use Rattle.std.proofs.Common.{Result, Ok, Err, OnOk, refl, sym, ◌∙◌, length}
use Rattle.std.proofs.lemmas.Bool.{eqb-true, eq-eqb}
use mathlib.Core.Bool.{false≢true}
use Rattle.elasticlunr_trie_nodes.proofs.Letters.{some_character, no_character}
use Rattle.elasticlunr_trie.proofs.inverted_index.starts.add_start.Goals as goal

on_ok : {T E : Type 0} {P Q : Type 0} (r : Result T E) → (P → Q) → OnOk r P → OnOk r Q
on_ok (Ok x) f p = f p
on_ok (Err e) f p = tt

pub returns-then-is_empty-clause-ok : goal.returns-then-is_empty-clause-ok
returns-then-is_empty-clause-ok c = (
  (λ some. absurd
      (some (no_character _ (eqb-true _ 0 (sym c.if-is_empty.ensures))))),
  (λ _. refl),
)

-- a token that is not empty has a character
pub add_posting-requires-clause-not_empty : goal.add_posting-requires-clause-not_empty
add_posting-requires-clause-not_empty c none =
    absurd (false≢true (c.if-is_empty.ensures
    ∙ eq-eqb (length c.args.start.token.now) 0 (some_character c.args.start.token.now c.requires.start.token
    none)))

pub returns-clause-ok : goal.returns-clause-ok
returns-clause-ok c =
    on_ok c.add_posting.result (λ adds. (
      (λ _. adds),
      (λ none. absurd (false≢true (c.if-is_empty.ensures
          ∙ eq-eqb (length c.args.start.token.now) 0 (some_character c.args.start.token.now c.requires.start.token
          none)))),
    )) c.add_posting.ensures.ok
