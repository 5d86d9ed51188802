-- Steps of the loops over words, tokens and fields.
use Rattle.std.proofs.Common.{◌≡◌, ◌<◌, ◌+◌, ℕ, List, [], ◌∷◌, ◌++◌, length, take, get_or, map, Option, sym, ap}
use Rattle.std.proofs.Common.{◌∙◌, String, Global}
use Rattle.std.proofs.lemmas.List.{map-append, take_more}
use Rattle.std.proofs.lemmas.List.Elements.{All-push}
use Rattle.std.specs.Float.{Float}
use Rattle.elasticlunr_error.specs.Text.{Text, text_of, texts_of}
use Rattle.elasticlunr_ranking.specs.Fields.{Field, field_of}
use Rattle.elasticlunr_ranking.specs.Weights.{AreAllLookedUp, AreLookedUp, AreWordsOf, added, sum_of}
use Rattle.elasticlunr_ranking.specs.declared.field.SearchedField.{SearchedField}
use Rattle.elasticlunr_ranking.proofs.Sums.{sum_push}

pub map_more : {A B : Type 0} (f : A → B) (xs : List A) (i : ℕ) (x : A) → i < length xs → x ≡ get_or xs i x
    → map f (take (i + 1) xs) ≡ map f (take i xs) ++ f x ∷ []
map_more f xs i x lt is = ap (map f) (take_more xs i x lt) ∙ map-append f (take i xs) (get_or xs i x ∷ [])
    ∙ ap (λ y. map f (take i xs) ++ f y ∷ []) (sym is)

pub word_step : (part : Text → Option Float) (words : List (String Global)) (i : ℕ) (word : String Global)
    → i < length words → word ≡ get_or words i word
    → (old new : Option Float) → old ≡ sum_of (map part (texts_of (take i words)))
    → new ≡ added old (part (text_of word)) → new ≡ sum_of (map part (texts_of (take (i + 1) words)))
word_step part words i word lt is old new was adds =
    adds ∙ ap (λ o. added o (part (text_of word))) was ∙ sym (sum_push part (texts_of (take i words)) (text_of word))
    ∙ sym (ap (λ ws. sum_of (map part ws)) (map_more text_of words i word lt is))

pub token_step : (field : Field) (tokens : List (String Global)) (i : ℕ) (token : String Global)
    → i < length tokens → token ≡ get_or tokens i token → (text : Text) → text ≡ text_of token
    → (done : List (Text × List Text)) (words : List Text)
    → AreLookedUp field (texts_of (take i tokens)) done → AreWordsOf field.table field.expand text words
    → AreLookedUp field (texts_of (take (i + 1) tokens)) (done ++ (text, words) ∷ [])
token_step field tokens i token lt is text same done words are more = (
  map-append (λ (t : Text × List Text). t.0) done ((text, words) ∷ [])
      ∙ (λ j. are.0 j ++ same j ∷ []) ∙ sym (map_more text_of tokens i token lt is),
  All-push (λ (t : Text × List Text). AreWordsOf field.table field.expand t.0 t.1) done (text, words) are.1 more,
)

pub field_step : (tokens : List Text) (fields : List SearchedField) (i : ℕ) (field : SearchedField)
    → i < length fields → field ≡ get_or fields i field → (done : List (Field × List (Text × List Text)))
    → (looked_up : List (Text × List Text)) → AreAllLookedUp (map field_of (take i fields)) tokens done
    → AreLookedUp (field_of field) tokens looked_up
    → AreAllLookedUp (map field_of (take (i + 1) fields)) tokens (done ++ (field_of field, looked_up) ∷ [])
field_step tokens fields i field lt is done looked_up are more = (
  map-append (λ (f : Field × List (Text × List Text)). f.0) done ((field_of field, looked_up) ∷ [])
      ∙ ap (λ fs. fs ++ field_of field ∷ []) are.0 ∙ sym (map_more field_of fields i field lt is),
  All-push (λ (f : Field × List (Text × List Text)). AreLookedUp f.0 tokens f.1) done (field_of field, looked_up)
      are.1 more,
)
