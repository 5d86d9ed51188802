-- Texts in the order of their characters stand in the order of their bytes.
use Rattle.std.proofs.Common.{◌≡◌, List, [], ◌∷◌, ◌++◌, String, Global, string_bytes, encode_utf8, encode_utf8_all, inl}
use Rattle.std.proofs.Common.{inr, arith, sym, ap, subst, ◌∙◌, Less, Equal, Greater}
use Rattle.std.proofs.lemmas.Str.{IsUtf8-string_bytes, encodes-chars}
use Rattle.std.specs.Ordering.{ordering_then}
use Rattle.std.specs.Cmp.{nat_cmp_is}
use Rattle.std.specs.List.{AllByRecursion}
use Rattle.std.specs.List.Sorted.{IsStrictlySortedBy}
use Rattle.std.proofs.lemmas.Bool.{cases_lt, cases_eq}
use Rattle.elasticlunr_error.specs.Text.{Text, bytes_of, text_cmp, text_of, texts_of}
use Rattle.elasticlunr_trie.proofs.Rising.{IsLess, none_before, rising_before}
use Rattle.elasticlunr_trie.proofs.Visits.{front_less}

encodes_rise : (xs ys : Text) → text_cmp xs ys ≡ Less → IsLess (encode_utf8_all xs) (encode_utf8_all ys)
encodes_rise [] [] h = absurd (cc)
encodes_rise [] (y ∷ ys) h = none_before y (encode_utf8_all ys)
encodes_rise (x ∷ xs) [] h = absurd (cc)
encodes_rise (x ∷ xs) (y ∷ ys) h = elim (cases_lt x y) [
  | inl lt ↦ rising_before x y lt (encode_utf8_all xs) (encode_utf8_all ys)
  | inr ge ↦ elim (cases_eq x y) [
    | inl same ↦
        let later : text_cmp xs ys ≡ Less = ap (λ o. ordering_then o (text_cmp xs ys)) (nat_cmp_is x y Equal same)
        ∙ h in
        subst (λ z. IsLess (encode_utf8 x ++ encode_utf8_all xs) (encode_utf8 z ++ encode_utf8_all ys)) same
        (front_less (encode_utf8 x) _ _ (encodes_rise xs ys later))
    | inr apart ↦ absurd (let more : text_cmp (x ∷ xs) (y ∷ ys) ≡ Greater = ap (λ o. ordering_then o (text_cmp xs ys))
        (sym (nat_cmp_is x y Greater (omega (arith, ge, apart)))) in cc)
  ]
]

string_rise : (a b : String Global) → text_cmp (text_of a) (text_of b) ≡ Less
    → text_cmp (string_bytes a) (string_bytes b) ≡ Less
unfolding IsLess
string_rise a b h = sym (λ i. text_cmp (encodes-chars (string_bytes a) (IsUtf8-string_bytes a) i)
    (encodes-chars (string_bytes b) (IsUtf8-string_bytes b) i)) ∙ encodes_rise (text_of a) (text_of b) h

all_rise : (a : String Global) (bs : List (String Global)) → AllByRecursion (λ y. text_cmp (text_of a) y ≡ Less)
    (texts_of bs) → AllByRecursion (λ y. text_cmp (string_bytes a) y ≡ Less) (bytes_of bs)
all_rise a [] h = tt
all_rise a (b ∷ bs) h = (string_rise a b h.0, all_rise a bs h.1)

pub bytes_rise : (bs : List (String Global)) → IsStrictlySortedBy text_cmp (texts_of bs)
    → IsStrictlySortedBy text_cmp (bytes_of bs)
unfolding IsStrictlySortedBy
bytes_rise [] h = tt
bytes_rise (a ∷ bs) h = (all_rise a bs h.0, bytes_rise bs h.1)
