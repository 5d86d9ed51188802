-- Tokens that are listed, by their characters and by their bytes.
use Rattle.std.proofs.Common.{◌≡◌, ◌↔◌, ◌⊎◌, inl, inr, Bool, true, false, true≢false, ◌||◌, cond, List, [], ◌∷◌, ◌++◌}
use Rattle.std.proofs.Common.{String, Global, string_bytes, string_cmp, refl, sym, ap, subst, ◌∙◌, bytes_eq}
use Rattle.std.proofs.Common.{encode_utf8_all}
use Rattle.std.specs.Prelude.{IsTrue}
use Rattle.std.proofs.lemmas.Slice.Eq.{bytes_eq-Decides}
use Rattle.std.proofs.lemmas.Str.{IsUtf8-string_bytes, encodes-chars}
use Rattle.std.specs.Str.{chars, IsUtf8}
use Rattle.std.specs.List.{list_any, AllByRecursion, dedup, dedup_from}
use Rattle.std.specs.List.Sorted.{IsStrictlySortedBy, IsPermutation}
use Rattle.std.specs.String.{string_eq}
use Rattle.std.proofs.lemmas.List.Sorted.{list_any-IsPermutation}
use Rattle.std.proofs.Common.{Less}
use Rattle.elasticlunr_error.specs.Text.{Text, Bytes, bytes_of, is_listed, text_cmp, texts_of}
use Rattle.elasticlunr_trie.specs.Table.{Table}
use Rattle.elasticlunr_trie.specs.Tokens.{IsToken, IsTokenFrom}
use Rattle.elasticlunr_pieces.specs.Entries.{IsTokenOf}

pub either : (a b : Bool) → (a || b) ≡ true → (a ≡ true) ⊎ (b ≡ true)
either true b h = inl refl
either false b h = inr h

pub left_true : (a b : Bool) → a ≡ true → (a || b) ≡ true
left_true true b h = refl
left_true false b h = absurd (true≢false (sym h))

pub right_true : (a b : Bool) → b ≡ true → (a || b) ≡ true
right_true true b h = refl
right_true false b h = h

-- bytes that are listed are text, whose characters are listed
by_characters : (b : Bytes) (v : List (String Global)) → is_listed b (bytes_of v) ≡ true
    → IsUtf8 b × (is_listed (chars b) (texts_of v) ≡ true)
by_characters b [] h = absurd (true≢false (sym h))
by_characters b (s ∷ v) h = elim (either (bytes_eq b (string_bytes s)) _ h) [
  | inl here ↦
      let same : b ≡ string_bytes s = (bytes_eq-Decides b (string_bytes s)).0 here in (
        subst (λ x. IsUtf8 x) (sym same) (IsUtf8-string_bytes s),
        left_true _ _ ((bytes_eq-Decides (chars b) (chars (string_bytes s))).1 (ap chars same)),
      )
  | inr later ↦ let more = by_characters b v later in
      (more.0, right_true (bytes_eq (chars b) (chars (string_bytes s))) _ more.1)
]

by_bytes : (b : Bytes) → IsUtf8 b → (v : List (String Global)) → is_listed (chars b) (texts_of v) ≡ true
    → is_listed b (bytes_of v) ≡ true
by_bytes b text [] h = absurd (true≢false (sym h))
by_bytes b text (s ∷ v) h = elim (either (bytes_eq (chars b) (chars (string_bytes s))) _ h) [
  | inl here ↦
      let same : chars b ≡ chars (string_bytes s) = (bytes_eq-Decides (chars b) (chars (string_bytes s))).0 here in
      left_true _ _ ((bytes_eq-Decides b (string_bytes s)).1 (sym (encodes-chars b text) ∙ ap encode_utf8_all same
      ∙ encodes-chars (string_bytes s) (IsUtf8-string_bytes s)))
  | inr later ↦ right_true (bytes_eq b (string_bytes s)) _ (by_bytes b text v later)
]

-- the tokens of one table
pub tokens_by_bytes : (T : Table) (v : List (String Global))
    → ((t : Text) → IsTrue (is_listed t (texts_of v)) ↔ IsTokenFrom T [] t)
    → (b : Bytes) → IsTrue (is_listed b (bytes_of v)) ↔ (IsUtf8 b × IsToken T (chars b))
tokens_by_bytes T v tokens b = (
  λ h. let found = by_characters b v h in (found.0, ((tokens (chars b)).0 found.1).1),
  λ h. by_bytes b h.0 v ((tokens (chars b)).1 ((chars b, refl), h.1)),
)

-- the tokens so far, and those of the tables that are left
abbrev pub HasSoFar : List (String Global) → List Table → List Table → Type 0
HasSoFar found left tables = (b : Bytes) → (IsTrue (is_listed b (bytes_of found)) ⊎ IsTokenOf left b) ↔ IsTokenOf
    tables b

pub none_so_far : (found : List (String Global)) → found ≡ [] → (tables : List Table) → HasSoFar found tables tables
none_so_far found e tables b = (
  λ h. elim h [
    | inl listed ↦ absurd (true≢false (sym (sym (ap (λ v. is_listed b (bytes_of v)) e) ∙ listed)))
    | inr is ↦ is
  ],
  λ is. inr is,
)

pub one_table_more : (found more : List (String Global)) (T : Table) (left tables : List Table) (v : List (String
    Global))
    → ((t : Text) → IsTrue (is_listed t (texts_of v)) ↔ IsTokenFrom T [] t)
    → ((b : Bytes) → is_listed b (bytes_of more) ≡ (is_listed b (bytes_of found) || is_listed b (bytes_of v)))
    → HasSoFar found (T ∷ left) tables → HasSoFar more left tables
one_table_more found more T left tables v tokens puts so_far b =
    let by = tokens_by_bytes T v tokens b in (
      λ h. elim h [
        | inl listed ↦ elim (either (is_listed b (bytes_of found)) _ (sym (puts b) ∙ listed)) [
          | inl old ↦ (so_far b).0 (inl old)
          | inr new ↦ let is = by.0 new in (so_far b).0 (inr (is.0, inl is.1))
        ]
        | inr is ↦ (so_far b).0 (inr (is.0, inr is.1))
      ],
      λ is. elim ((so_far b).1 is) [
        | inl old ↦ inl (puts b ∙ left_true _ _ old)
        | inr later ↦ elim later.1 [
          | inl here ↦ inl (puts b ∙ right_true (is_listed b (bytes_of found)) _ (by.1 (later.0, here)))
          | inr there ↦ inr (later.0, there)
        ]
      ],
    )

pub all_so_far : (found : List (String Global)) (tables : List Table) → HasSoFar found [] tables
    → (b : Bytes) → IsTrue (is_listed b (bytes_of found)) ↔ IsTokenOf tables b
all_so_far found tables so_far b = (
  λ h. (so_far b).0 (inl h),
  λ is. elim ((so_far b).1 is) [ inl h ↦ h | inr none ↦ absurd none.1 ],
)

-- what is listed in the one or in the other
pub listed_append : (b : Bytes) (xs ys : List (String Global))
    → is_listed b (bytes_of (xs ++ ys)) ≡ (is_listed b (bytes_of xs) || is_listed b (bytes_of ys))
listed_append b [] ys = refl
listed_append b (x ∷ xs) ys = ap (λ r. bytes_eq b (string_bytes x) || r) (listed_append b xs ys)
    ∙ regrouped (bytes_eq b (string_bytes x)) (is_listed b (bytes_of xs)) (is_listed b (bytes_of ys))
  where
    regrouped : (a c d : Bool) → (a || (c || d)) ≡ ((a || c) || d)
    regrouped true c d = refl
    regrouped false c d = refl

by_any : (b : Bytes) (xs : List (String Global))
    → list_any (λ s. bytes_eq b (string_bytes s)) xs ≡ is_listed b (bytes_of xs)
by_any b [] = refl
by_any b (x ∷ xs) = ap (λ r. bytes_eq b (string_bytes x) || r) (by_any b xs)

-- the same is listed in another order
pub listed_moved : (b : Bytes) (xs ys : List (String Global)) → IsPermutation xs ys
    → is_listed b (bytes_of ys) ≡ is_listed b (bytes_of xs)
listed_moved b xs ys moved = sym (by_any b ys)
    ∙ sym (list_any-IsPermutation (λ s. bytes_eq b (string_bytes s)) xs ys moved) ∙ by_any b xs

-- a text that comes again lists no other
again : (b : Bytes) (k x : String Global) (r : Bool) → string_bytes x ≡ string_bytes k
    → (bytes_eq b (string_bytes k) || r) ≡ (bytes_eq b (string_bytes k) || (bytes_eq b (string_bytes x) || r))
again b k x r same = twice (bytes_eq b (string_bytes k)) r
    ∙ ap (λ y. bytes_eq b (string_bytes k) || (bytes_eq b y || r)) (sym same)
  where
    twice : (a r : Bool) → (a || r) ≡ (a || (a || r))
    twice true r = refl
    twice false r = refl

dedup_step : (b : Bytes) (k x : String Global) (xs : List (String Global)) (c : Bool) → string_eq x k ≡ c
    → is_listed b (bytes_of (dedup_from string_eq k xs)) ≡ (bytes_eq b (string_bytes k) || is_listed b (bytes_of xs))
    → is_listed b (bytes_of (dedup_from string_eq x xs)) ≡ (bytes_eq b (string_bytes x) || is_listed b (bytes_of xs))
    → is_listed b (bytes_of (cond c (dedup_from string_eq k xs) (k ∷ dedup_from string_eq x xs)))
    ≡ (bytes_eq b (string_bytes k) || is_listed b (bytes_of (x ∷ xs)))
dedup_step b k x xs true e same other = same ∙ again b k x (is_listed b (bytes_of xs))
    ((bytes_eq-Decides (string_bytes x) (string_bytes k)).0 e)
dedup_step b k x xs false e same other = ap (λ r. bytes_eq b (string_bytes k) || r) other

dedup_lists : (b : Bytes) (k : String Global) (xs : List (String Global))
    → is_listed b (bytes_of (dedup_from string_eq k xs)) ≡ (bytes_eq b (string_bytes k) || is_listed b (bytes_of xs))
dedup_lists b k [] = refl
dedup_lists b k (x ∷ xs) = dedup_step b k x xs (string_eq x k) refl (dedup_lists b k xs) (dedup_lists b x xs)

-- each text once lists the same
pub listed_once : (b : Bytes) (xs : List (String Global))
    → is_listed b (bytes_of (dedup string_eq xs)) ≡ is_listed b (bytes_of xs)
listed_once b [] = refl
listed_once b (x ∷ xs) = dedup_lists b x xs

-- strings in order have their bytes in order
all_after : (k : String Global) (ks : List (String Global)) → AllByRecursion (λ y. string_cmp k y ≡ Less) ks
    → AllByRecursion (λ y. text_cmp (string_bytes k) y ≡ Less) (bytes_of ks)
all_after k [] h = tt
all_after k (x ∷ ks) h = (h.0, all_after k ks h.1)

pub strings_in_order : (ks : List (String Global)) → IsStrictlySortedBy string_cmp ks
    → IsStrictlySortedBy text_cmp (bytes_of ks)
unfolding IsStrictlySortedBy
strings_in_order [] h = tt
strings_in_order (k ∷ ks) h = (all_after k ks h.0, strings_in_order ks h.1)
