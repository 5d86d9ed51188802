-- Texts of one word.
use Rattle.std.proofs.Common.{◌≡◌, ◌<◌, inl, inr, arith, length, List, [], ◌∷◌, Option, Some, filter_map, ap, subst, ◌∙◌}
use Rattle.std.specs.List.{AllZip}
use Rattle.std.specs.Str.{chars, encode_utf8_all}
use Rattle.elasticlunr.specs.AnyLanguage.{AnyLanguage}
use Rattle.elasticlunr.specs.Kept.{ReadsOneToken}
use Rattle.elasticlunr.specs.Known.{language_leaves}
use Rattle.elasticlunr.specs.Stems.{Stem}
use Rattle.elasticlunr.specs.Text.{Text, Bytes}
use Rattle.elasticlunr.specs.Words.{words}

-- a word of at most two bytes is its own stem
pub short_stem : (word stem : Text) → length (encode_utf8_all word) < 3 → Stem word stem → stem ≡ word
short_stem word stem short (inl is) = is.1
short_stem word stem short (inr is) = absurd (omega (arith, is.0, short))

-- a text of one word is read as the one token that the language leaves of it
pub one_token : (language : AnyLanguage) (text : Bytes) (word token : Text) → words (chars text) ≡ word ∷ []
    → ((left : Option Text) → language_leaves language word left → left ≡ Some token)
    → ReadsOneToken language text token
one_token language text word token one leaves tokens is =
    is.are ∙ one_left is.lefts (subst (λ made. AllZip (language_leaves language) made is.lefts) one is.each) where
      one_left : (lefts : List (Option Text)) → AllZip (language_leaves language) (word ∷ []) lefts
          → filter_map (λ left. left) lefts ≡ token ∷ []
      one_left [] each = absurd each
      one_left (left ∷ next ∷ lefts) each = absurd each.1
      one_left (left ∷ []) each = ap (λ l. filter_map (λ x. x) (l ∷ [])) (leaves left each.0)
