-- The words of a text are texts.
use Rattle.std.proofs.Common.{◌≡◌, ◌<◌, ◌≤◌, ◌+◌, ◌==◌, ◌||◌, ℕ, Bool, true, false, List, [], ◌∷◌, filter, map, refl, sym}
use Rattle.std.proofs.Common.{subst, arith, IsTrue, if◌then◌else◌, ◌&&◌, ◌%◌, not}
use Rattle.std.specs.Char.{IsScalar}
use Rattle.std.specs.List.{AllByRecursion, onto_first, slice_split}
use Rattle.std.specs.Str.{all_scalars}
use Rattle.std.proofs.lemmas.Bool.Decides.{nat_tests}
use Rattle.std.proofs.lemmas.List.Splits.{slice_split-cons_no, slice_split-cons_yes}
use Rattle.elasticlunr_text.specs.Text.{Text, is_not_empty}
use Rattle.elasticlunr_text.proofs.BasicLemmas.{and_both, and_first, and_second}
use Rattle.elasticlunr_text.proofs.ScalarLemmas.{scalars-append}
use Rattle.elasticlunr_lang.specs.Lower.{is_between, lower}
use Rattle.elasticlunr_lang.specs.Words.{in_lower_case, is_separator, words}

abbrev pub AreTexts : List Text → Type 0
AreTexts texts = AllByRecursion (λ text. IsTrue (all_scalars text)) texts

-- a character in lower case, and a text
record IsOfScalars (text : Text) : Type 0 where
  pub are : all_scalars text ≡ true

small : (d : ℕ) → d < 0xD800 → IsOfScalars (d ∷ [])
small d lt = record { are = grind (arith, nat_tests) }

up_to : (low high c : ℕ) → is_between low high c ≡ true → c ≤ high
up_to low high c is = grind (arith, nat_tests)

moved : (low high by c : ℕ) → is_between low high c ≡ true → high + by < 0xD800 → IsOfScalars ((c + by) ∷ [])
moved low high by c is lt = small (c + by) (omega (arith, up_to low high c is, lt))

one_of : (a b c : ℕ) → a < 0x300 → b < 0x300 → (c == a) || (c == b) ≡ true → IsOfScalars ((c + 1) ∷ [])
one_of a b c at bt is = record { are = grind (arith, nat_tests) }

one_of_three : (a b d c : ℕ) → a < 0x300 → b < 0x300 → d < 0x300 → ((c == a) || (c == b)) || (c == d) ≡ true
    → IsOfScalars ((c + 1) ∷ [])
one_of_three a b d c at bt dt is = record { are = grind (arith, nat_tests) }

pick : (b : Bool) (xs ys : Text) → (b ≡ true → IsOfScalars xs) → IsOfScalars ys → IsOfScalars (if b then xs else ys)
pick true xs ys one other = one refl
pick false xs ys one other = other

lower-scalars : (c : ℕ) → IsScalar c → IsOfScalars (lower c)
unfolding lower
lower-scalars c scalar =
    pick _ _ _ (λ is. moved 0x41 0x5A 32 c is (omega arith))
    (pick (is_between 0xC0 0xDE c && not (c == 0xD7)) _ _
    (λ is. moved 0xC0 0xDE 32 c (and_first _ _ is) (omega arith))
    (pick (is_between 0x100 0x12F c && (c % 2 == 0)) _ _
    (λ is. moved 0x100 0x12F 1 c (and_first _ _ is) (omega arith))
    (pick (c == 0x130) (0x69 ∷ 0x307 ∷ []) _ (λ is. record { are = refl })
    (pick (is_between 0x132 0x137 c && (c % 2 == 0)) _ _
    (λ is. moved 0x132 0x137 1 c (and_first _ _ is) (omega arith))
    (pick (is_between 0x139 0x148 c && (c % 2 == 1)) _ _
    (λ is. moved 0x139 0x148 1 c (and_first _ _ is) (omega arith))
    (pick (is_between 0x14A 0x177 c && (c % 2 == 0)) _ _
    (λ is. moved 0x14A 0x177 1 c (and_first _ _ is) (omega arith))
    (pick (c == 0x178) (0xFF ∷ []) _ (λ is. record { are = refl })
    (pick _ _ _ (λ is. one_of_three 0x179 0x17B 0x17D c (omega arith) (omega arith) (omega arith) is)
    (pick _ _ _ (λ is. one_of 0x218 0x21A c (omega arith) (omega arith) is)
    (pick _ _ _ (λ is. moved 0x400 0x40F 80 c is (omega arith))
    (pick _ _ _ (λ is. moved 0x410 0x42F 32 c is (omega arith))
    (record { are = and_both _ _ scalar refl }))))))))))))

lowered : (text : Text) → all_scalars text ≡ true → all_scalars (in_lower_case text) ≡ true
lowered [] are = refl
lowered (c ∷ text) are = scalars-append (lower c) (in_lower_case text) (lower-scalars c (and_first _ _ are)).are
    (lowered text (and_second _ _ are))

-- the parts of a text, some of them, and these in lower case
onto_texts : (c : ℕ) → IsScalar c → (parts : List Text) → AreTexts parts → AreTexts (onto_first c parts)
onto_texts c scalar [] are = (and_both _ _ scalar refl, tt)
onto_texts c scalar (part ∷ parts) are = (and_both _ _ scalar are.0, are.1)

split_texts : (test : ℕ → Bool) (text : Text) → all_scalars text ≡ true → AreTexts (slice_split test text)
split_texts test [] are = (refl, tt)
split_texts test (c ∷ text) are = by (test c) refl (split_texts test text (and_second _ _ are)) where
  by : (b : Bool) → test c ≡ b → AreTexts (slice_split test text) → AreTexts (slice_split test (c ∷ text))
  by true is rest = subst (λ parts. AreTexts parts) (sym (slice_split-cons_yes test c text is)) (refl, rest)
  by false is rest = subst (λ parts. AreTexts parts) (sym (slice_split-cons_no test c text is))
      (onto_texts c (and_first _ _ are) (slice_split test text) rest)

filtered_texts : (texts : List Text) → AreTexts texts → AreTexts (filter is_not_empty texts)
filtered_texts [] are = tt
filtered_texts ([] ∷ texts) are = filtered_texts texts are.1
filtered_texts ((c ∷ text) ∷ texts) are = (are.0, filtered_texts texts are.1)

lowered_texts : (texts : List Text) → AreTexts texts → AreTexts (map in_lower_case texts)
lowered_texts [] are = tt
lowered_texts (text ∷ texts) are = (lowered text are.0, lowered_texts texts are.1)

-- and so its words
pub word_texts : (text : Text) → all_scalars text ≡ true → AreTexts (words text)
word_texts text are = lowered_texts (filter is_not_empty (slice_split is_separator text))
    (filtered_texts (slice_split is_separator text) (split_texts is_separator text are))
