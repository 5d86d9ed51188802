-- The pieces that are needed are enough.
use Rattle.std.proofs.Common.{◌≡◌, ◌≢◌, ◌<◌, ◌+◌, ◌⊎◌, inl, inr, ℕ, zero, suc, Bool, true, false, true≢false, ◌||◌, cond}
use Rattle.std.proofs.Common.{List, [], ◌∷◌, ◌++◌, length, get_or, Option, Some, None, IsSome, refl, sym, ap, subst}
use Rattle.std.proofs.Common.{◌∙◌, arith, bytes_eq, nat_eq, Less, Equal, Greater, encode_utf8_all}
use Rattle.std.proofs.lemmas.Slice.Eq.{bytes_eq-Decides}
use Rattle.std.proofs.lemmas.Str.{chars-encodes, encodes-append, encodes-chars}
use Rattle.std.proofs.lemmas.Cmp.{nat_list_cmp_total}
use Rattle.std.specs.Prelude.{Contains, IfSome, slice_get, ◌&&◌}
use Rattle.std.specs.FinMap.{same_map, nat_cmp-IsAntisymmetric, slice_cmp-IsAntisymmetric}
use Rattle.std.specs.List.{starts_with}
use Rattle.std.specs.Ordering.{ordering_reverse}
use Rattle.std.specs.Str.{chars, IsUtf8, all_scalars}
use Rattle.std.specs.declared.cmp.Ordering.{Ordering}
use Rattle.elasticlunr_error.specs.Text.{Text, Bytes, is_listed, text_cmp}
use Rattle.elasticlunr_trie.specs.Table.{Table, posting, postings}
use Rattle.elasticlunr_piece_laws.specs.Alike.{CanStandFor}
use Rattle.elasticlunr_piece_head.specs.Choice.{Answers, CanHave, IsNeededForOne}
use Rattle.elasticlunr_pieces.specs.Entries.{IsTokenIn, IsTokenOf}
use Rattle.elasticlunr_pieces.specs.Head.{firsts}
use Rattle.elasticlunr_piece_laws.specs.Held.{HavePostingsOf, is_one_of, stands_in_one}
use Rattle.elasticlunr_pieces.specs.Standing.{IsLastNotAbove, StandsIn}

left_true : (a b : Bool) → a ≡ true → (a || b) ≡ true
left_true true b h = refl
left_true false b h = absurd (true≢false (sym h))

right_true : (a b : Bool) → b ≡ true → (a || b) ≡ true
right_true true b h = refl
right_true false b h = h

either : (a b : Bool) → (a || b) ≡ true → (a ≡ true) ⊎ (b ≡ true)
either true b h = inl refl
either false b h = inr h

-- a token that is listed is one of the tokens
one_of : (b : Bytes) (tokens : List Bytes) → is_listed b tokens ≡ true → is_one_of tokens (chars b) ≡ true
one_of b [] h = absurd (true≢false (sym h))
one_of b (t ∷ ts) h = elim (either (bytes_eq b t) _ h) [
  | inl is ↦ left_true _ _ ((bytes_eq-Decides (chars b) (chars t)).1 (ap chars ((bytes_eq-Decides b t).0 is)))
  | inr later ↦ right_true _ _ (one_of b ts later)
]

-- it stands in one of the groups if it stands in one with such a number
in_one : (groups : List (List Bytes)) (numbers : List ℕ) (text : Text) (k n : ℕ) → k < length numbers
    → get_or numbers k n ≡ n → is_one_of (get_or groups n []) text ≡ true → stands_in_one groups numbers text ≡ true
in_one groups [] text k n lt is h = absurd (omega (arith, lt))
in_one groups (m ∷ ms) text zero n lt is h =
    left_true _ _ (ap (λ x. is_one_of (get_or groups x []) text) is ∙ h)
in_one groups (m ∷ ms) text (suc k) n lt is h = right_true _ _ (in_one groups ms text k n (omega (arith, lt)) is h)

-- the item at a place
at_place : {A : Type 0} (xs : List A) (n : ℕ) (d : A) → n < length xs → slice_get xs n ≡ Some (get_or xs n d)
at_place [] n d lt = absurd (omega (arith, lt))
at_place (x ∷ xs) zero d lt = refl
at_place (x ∷ xs) (suc n) d lt = at_place xs n d (omega (arith, lt))

within : {A : Type 0} (P : A → Type 0) (xs : List A) (n : ℕ) (d : A) → (n < length xs → P (get_or xs n d))
    → IfSome (slice_get xs n) P
within P [] n d p = tt
within P (x ∷ xs) zero d p = p (omega arith)
within P (x ∷ xs) (suc n) d p = within P xs n d (λ lt. p (omega (arith, lt)))

turned : (a b : Ordering) → a ≡ ordering_reverse b → b ≢ Greater → a ≢ Less
turned a Less e some is = cc
turned a Equal e some is = cc
turned a Greater e some is = some refl

-- the last group that doesn't begin above a token is one that can have it
last_can : (tops : List Bytes) (token : Bytes) (n : ℕ) → IsLastNotAbove tops token n → CanHave tops token n
last_can tops token n is = record {
  first = get_or tops n [];
  is_first = at_place tops n [] is.there;
  begins = turned (text_cmp token (get_or tops n [])) (text_cmp (get_or tops n []) token)
      (nat_list_cmp_total.antisymm token (get_or tops n [])) is.not_above;
  before = within (λ next. text_cmp token next ≡ Less) tops (n + 1) [] (λ lt. is.last (n + 1) (omega arith) lt);
}

nat_itself : (n : ℕ) → nat_eq n n ≡ true
nat_itself n = grind arith

begins_itself : (xs ys : List ℕ) → starts_with nat_eq (xs ++ ys) xs ≡ true
begins_itself [] ys = refl
begins_itself (x ∷ xs) ys = ap (λ b. b && starts_with nat_eq (xs ++ ys) xs) (nat_itself x) ∙ begins_itself xs ys

-- the bytes of a word that a token can stand for answer it
answers : (e : Bool) (asked : Bytes) → IsUtf8 asked → (word : Text) → CanStandFor e (chars asked) word
    → Answers e asked (encode_utf8_all word)
answers false asked text word stands = ap encode_utf8_all stands ∙ encodes-chars asked text
answers true asked text word (rest, is) =
    ap (λ t. starts_with nat_eq t asked) (ap encode_utf8_all (sym is) ∙ encodes-append (chars asked) rest
    ∙ ap (λ t. t ++ encode_utf8_all rest) (encodes-chars asked text))
    ∙ begins_itself asked (encode_utf8_all rest)

-- a table of a list has the tokens of all of them
token_in : (tables : List Table) (i : ℕ) (d : Table) (t : Text) → i < length tables
    → (r : Bytes) → IsSome (posting (get_or tables i d) t r) → IsTokenIn tables t
token_in [] i d t lt r is = absurd (omega (arith, lt))
token_in (table ∷ tables) zero d t lt r is = inl (r, is)
token_in (table ∷ tables) (suc i) d t lt r is = inr (token_in tables i d t (omega (arith, lt)) r is)

module _ (tables others : List Table) (groups : List (List Bytes)) (numbers : List ℕ)
    (characters : (i : ℕ) (d : Table) → i < length tables → (t : Text) (r : Bytes)
    → IsSome (posting (get_or tables i d) t r) → all_scalars t ≡ true)
    (standing : (token : Bytes) → IsTokenOf tables token
    → (n : ℕ) × StandsIn groups token n × IsLastNotAbove (firsts groups) token n)
    (have : HavePostingsOf groups numbers tables others) (expand : Bool) (asked : List Bytes)
    (needed : (n : ℕ) → IsNeededForOne (firsts groups) expand asked n → Contains numbers n)
  where
    module _ (k : ℕ) (lt : k < length asked) (text : IsUtf8 (get_or asked k [])) (word : Text)
        (stands : CanStandFor expand (chars (get_or asked k [])) word) where
      -- a token of one of the tables stands in one of the groups
      found : (i : ℕ) (d : Table) → i < length tables → (r : Bytes) → IsSome (posting (get_or tables i d) word r)
          → stands_in_one groups numbers word ≡ true
      found i d there r is =
          let scalars = characters i d there word r is in
          let bytes = encode_utf8_all word in
          let same : chars bytes ≡ word = chars-encodes word scalars in
          let place = standing bytes (
            (word, (scalars, refl)),
            subst (IsTokenIn tables) (sym same)
                (token_in tables i d word there r is),
          ) in
          let in_list = needed place.0 (
            k,
            lt,
            (
              bytes,
              answers expand (get_or asked k []) text word stands,
              last_can (firsts groups) bytes place.0 place.2,
            ),
          ) in
          in_one groups numbers word in_list.0 place.0 in_list.1 in_list.2
          (ap (is_one_of (get_or groups place.0 [])) (sym same) ∙ one_of bytes (get_or groups place.0 []) place.1.listed)

      by : (b : Bool) (o : Option ℕ) → (IsSome o → b ≡ true) → cond b o None ≡ o
      by true o all = refl
      by false None all = refl
      by false (Some n) all = absurd (true≢false (sym (all refl)))

      -- so the other tables have its postings
      pub same_postings : (i : ℕ) (d : Table) → i < length tables
          → postings (get_or others i d) word ≡ postings (get_or tables i d) word
      same_postings i d there = same_map nat_list_cmp_total (slice_cmp-IsAntisymmetric nat_cmp-IsAntisymmetric)
          (postings (get_or others i d) word) (postings (get_or tables i d) word)
          (λ r. have.each i d there word r
          ∙ by (stands_in_one groups numbers word) (posting (get_or tables i d) word r) (found i d there r))
