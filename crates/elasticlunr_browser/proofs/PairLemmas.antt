-- The pairs of a change, as far as a loop has come.
use Rattle.std.proofs.Common.{◌≡◌, ℕ, ◌+◌, ◌<◌, ◌≤◌, ◌⊎◌, inl, inr, List, [], ◌∷◌, ◌++◌, Bool, true, false, not, String}
use Rattle.std.proofs.Common.{Option, Some, None, IfSome, IsNone, option_to_list, option_map, length, get_or}
use Rattle.std.proofs.Common.{string_bytes, refl, sym, ap, subst, ◌∙◌, arith, below_more}
use Rattle.std.specs.List.{All, Contains}
use Rattle.std.specs.Option.{is_none, is_some, unwrap_or}
use Rattle.std.specs.Char.{InScalarRange}
use Rattle.std.specs.Str.{chars}
use Rattle.std.specs.declared.alloc.Global.{Global}
use Rattle.std.proofs.lemmas.List.{map-append, append-nil}
use Rattle.std.proofs.lemmas.List.Elements.{All-push, Contains-append_left, Contains-append_right}
use Rattle.std.proofs.lemmas.Str.{IsUtf8-string_bytes, chars-append}
use Rattle.elasticlunr_text.specs.Text.{Text, text_of, texts_of}
use Rattle.elasticlunr_text.specs.Trimmed.{unless_empty}
use Rattle.elasticlunr_text.specs.Arabic.{without_first, with_first, is_diacritic, is_marked_alef, arabic_stem}
use Rattle.elasticlunr_browser.specs.Pairs.{Pairs, IsPair, arabic_change}

-- the pairs of the characters below n
pub record ArePairs (changed : ℕ → Text) (n : ℕ) (pairs : List Text) : Type 0 where
  pub each : All (IsPair changed) pairs
  pub so_far : (c : ℕ) → c < n → InScalarRange c → Contains pairs (c ∷ changed c) ⊎ (changed c ≡ c ∷ [])

no_pairs_at_all : (changed : ℕ → Text) → ArePairs changed 0 []
no_pairs_at_all changed = record {
  each = λ k d h. absurd (omega (arith, h));
  so_far = λ c h. absurd (omega (arith, h));
}

pub no_pairs : (changed : ℕ → Text) (pairs : List (String Global)) → pairs ≡ [] → ArePairs changed 0 (texts_of pairs)
no_pairs changed pairs e = subst (λ ps. ArePairs changed 0 (texts_of ps)) (sym e) (no_pairs_at_all changed)

last_of : {X : Type 0} (xs : List X) (x : X) → Contains (xs ++ x ∷ []) x
last_of xs x = Contains-append_right xs (x ∷ []) x (0, omega arith, refl)

pub with_pair : (changed : ℕ → Text) (n : ℕ) (old new : List (String Global)) (pair : String Global)
    → ArePairs changed n (texts_of old) → InScalarRange n → text_of pair ≡ n ∷ changed n → new ≡ old ++ pair ∷ []
    → ArePairs changed (n + 1) (texts_of new)
with_pair changed n old new pair are is_char is_pair is =
    let texts : texts_of new ≡ texts_of old ++ (n ∷ changed n) ∷ [] = ap texts_of is
    ∙ map-append text_of old (pair ∷ []) ∙ ap (λ t. texts_of old ++ t ∷ []) is_pair in
    subst (ArePairs changed (n + 1)) (sym texts) record {
      each = All-push (IsPair changed) (texts_of old) (n ∷ changed n) are.each (n, is_char, refl);
      so_far = below_more _ _
          (λ c h is_scalar. elim (are.so_far c h is_scalar)
          [ inl there ↦ inl (Contains-append_left (texts_of old) _ _ there) | inr same ↦ inr same ])
          (λ _. inl (last_of (texts_of old) (n ∷ changed n)));
    }

pub without_pair : (changed : ℕ → Text) (n : ℕ) (pairs : List Text) → ArePairs changed n pairs
    → (InScalarRange n → changed n ≡ n ∷ []) → ArePairs changed (n + 1) pairs
without_pair changed n pairs are same = record {
  each = are.each;
  so_far = below_more _ _ are.so_far (λ is_char. inr (same is_char));
}

pub one_more : (changed : ℕ → Text) (n : ℕ) (old new : List (String Global)) (found : Option (String Global))
    → ArePairs changed n (texts_of old) → IfSome found (λ pair. InScalarRange n × (text_of pair ≡ n ∷ changed n))
    → (IsNone found → InScalarRange n → changed n ≡ n ∷ []) → new ≡ old ++ option_to_list found
    → ArePairs changed (n + 1) (texts_of new)
one_more changed n old new (Some pair) are some none is = with_pair changed n old new pair are some.0 some.1 is
one_more changed n old new None are some none is = subst (λ ps. ArePairs changed (n + 1) (texts_of ps))
    (sym (is ∙ append-nil old)) (without_pair changed n (texts_of old) are (none refl))

-- all characters have numbers below this
pub all_pairs : (changed : ℕ → Text) (n : ℕ) (pairs : List Text) → ArePairs changed n pairs → 0x110000 ≤ n
    → Pairs changed pairs
all_pairs changed n pairs are whole = record {
  each = are.each;
  whole = λ c is_char. are.so_far c (below c is_char) is_char;
}
  where
    below : (c : ℕ) → InScalarRange c → c < n
    below c (inl low) = omega (arith, low, whole)
    below c (inr high) = omega (arith, high.0, high.1, whole)

-- a character and what replaces it, put together
pub pair_text : (changed : ℕ → Text) (pair text new : String Global) (bytes : List ℕ) (c code : ℕ) → text_of pair ≡ c
    ∷ [] → bytes ≡ string_bytes text → string_bytes new ≡ string_bytes pair ++ bytes → text_of text ≡ changed c → c
    ≡ code → text_of new ≡ code ∷ changed code
pair_text changed pair text new bytes c code first is put after same =
    ap chars put ∙ chars-append (string_bytes pair) bytes (IsUtf8-string_bytes pair) ∙ ap (λ t. t ++ chars bytes) first
    ∙ ap (λ bs. c ∷ chars bs) is ∙ ap (λ t. c ∷ t) after ∙ ap (λ x. x ∷ changed x) same

-- a text of one letter
pub only_one : (letters : Text) (d c : ℕ) → 1 ≤ length letters → length letters < 2 → d ≡ get_or letters 0 d → d ≡ c
    → letters ≡ c ∷ []
only_one [] d c some few is same = absurd (omega (arith, some))
only_one (x ∷ []) d c some few is same = ap (λ y. y ∷ []) (sym is ∙ same)
only_one (x ∷ y ∷ letters) d c some few is same = absurd (omega (arith, few))

-- a character alone is dropped where the first test finds it, whatever the second does
module _ (drops changes : ℕ → Bool) (new c : ℕ) where
  pub left_alone : is_none (unless_empty (with_first changes new (without_first drops (c ∷ [])))) ≡ drops c
  left_alone = either (drops c) refl
    where
      either : (b : Bool) → drops c ≡ b → is_none (unless_empty (with_first changes new (without_first drops (c ∷ []))))
          ≡ drops c
      either true e = rw e refl
      either false e = rw e (kept (changes c) refl)
        where
          kept : (b : Bool) → changes c ≡ b → is_none (unless_empty (with_first changes new (c ∷ []))) ≡ false
          kept true f = rw f refl
          kept false f = rw f refl

-- whether the Arabic stemmer left nothing of a character
pub is_dropped : (left : Option (String Global)) (nothing : Bool) (token : Text) (c : ℕ) → is_some left ≡ not nothing
    → option_map text_of left ≡ arabic_stem token → token ≡ c ∷ [] → nothing ≡ is_diacritic c
is_dropped left nothing token c told is alone = said left nothing told ∙ ap is_none (is ∙ ap arabic_stem alone)
    ∙ left_alone is_diacritic is_marked_alef 0x627 c
  where
    said : (left : Option (String Global)) (nothing : Bool) → is_some left ≡ not nothing → nothing
        ≡ is_none (option_map text_of left)
    said None true e = refl
    said None false e = cc
    said (Some s) true e = cc
    said (Some s) false e = refl

-- what the Arabic stemmer left of a character alone is what replaces it, and the character itself where it left nothing
module _ (left : Option (String Global)) (token : Text) (c : ℕ) (is : option_map text_of left ≡ arabic_stem token)
    (alone : token ≡ c ∷ []) where
  stem_of_one : arabic_stem (c ∷ []) ≡ option_map text_of left
  stem_of_one = sym (is ∙ ap arabic_stem alone)

  pub stands_for_itself : left ≡ None → arabic_change c ≡ c ∷ []
  stands_for_itself none = ap (λ stem. unwrap_or stem (c ∷ [])) (stem_of_one ∙ ap (option_map text_of) none)

  pub stands_left : (text : String Global) → left ≡ Some text → text_of text ≡ arabic_change c
  stands_left text some = sym (ap (λ stem. unwrap_or stem (c ∷ [])) (stem_of_one ∙ ap (option_map text_of) some))

  -- where it left the character, it stays
  pub stands_alone : (text : String Global) → left ≡ Some text → text_of text ≡ c ∷ [] → arabic_change c ≡ c ∷ []
  stands_alone text some same = sym (stands_left text some) ∙ same
