-- The values of the pieces of the tries are plain and flat, with numbers of 64 bits.
use Rattle.std.proofs.Common.{◌≡◌, ◌<◌, ◌≤◌, ◌+◌, ◌^◌, ℕ, zero, suc, Bool, true, false, max, List, [], ◌∷◌, ◌++◌, length, get_or}
use Rattle.std.proofs.Common.{Option, Some, None, IfSome, cond, refl, sym, ap, subst, ◌∙◌, arith, Less, Equal, Greater}
use Rattle.std.proofs.Common.{true≢false, bytes_eq, if◌then◌else◌}
use Rattle.std.specs.declared.cmp.Ordering.{Ordering}
use Rattle.std.proofs.Math.Nat.{max-le}
use Rattle.std.specs.FinMap.{entries, entries_sorted, get-entries}
use Rattle.std.specs.FinMap.Entries.{below_all, find, is_sorted}
use Rattle.std.specs.List.{AllByRecursion}
use Rattle.std.specs.List.Sorted.{IsStrictlySortedBy}
use Rattle.std.specs.Ordering.{is_eq}
use Rattle.std.specs.Prelude.{T}
use Rattle.std.specs.Str.{chars}
use Rattle.serde_json.specs.Data.{object, Items}
use Rattle.serde_json.specs.Data.{items_depth, members_depth}
use Rattle.serde_json.specs.Read.{read}
use Rattle.elasticlunr_error.specs.Text.{Text, Bytes, text_cmp}
use Rattle.elasticlunr_json.specs.Texts.{ItemsHaveIntegers, MembersHaveIntegers}
use Rattle.elasticlunr_print.proofs.Plain.{ArePlainItems, ArePlain}
use Rattle.elasticlunr_pieces.specs.Cut.{IsCut}
use Rattle.elasticlunr_pieces.specs.Entries.{field_values, number_from, number_of, numbered, token_members}
use Rattle.elasticlunr_pieces.specs.Entries.{tries_text, with_number}
use Rattle.elasticlunr_pieces.specs.Head.{firsts}
use Rattle.elasticlunr_trie.specs.Table.{Table, IsTable, postings}
use Rattle.elasticlunr_trie.specs.Tree.{IsBelow, HasKeysInOrder}
use Rattle.elasticlunr_piece_texts.specs.Texts.{IsSmall}
use Rattle.elasticlunr_piece_texts.proofs.Found.{exact, find_below, first, second, text_itself}
use Rattle.elasticlunr_piece_texts.proofs.ReadTexts.{text_read}

-- ---- the list of a token in a field

with_plain : (o : Option ℕ) (f : ℕ) (more : Items) → ArePlainItems more → ArePlainItems (with_number o f more)
with_plain None f more plain = plain
with_plain (Some n) f more plain = (tt, (tt, plain))

with_small : (o : Option ℕ) (f : ℕ) (more : Items) → IfSome o IsSmall → IsSmall f → ItemsHaveIntegers more
    → ItemsHaveIntegers (with_number o f more)
with_small None f more number frequency small = small
with_small (Some n) f more number frequency small = (number, (frequency, small))

with_flat : (o : Option ℕ) (f : ℕ) (more : Items) → items_depth more ≤ 0 → items_depth (with_number o f more) ≤ 0
with_flat None f more flat = flat
with_flat (Some n) f more flat = let low : 0 ≤ 0 = omega arith in max-le low (max-le low flat)

weaker : (o : Option ℕ) (m n : ℕ) → m ≤ n → IfSome o (λ k. k < m) → IfSome o (λ k. k < n)
weaker None m n le h = tt
weaker (Some k) m n le h = omega (arith, le, h)

number_below : (k : ℕ) (names : List Bytes) (r : Bytes) → IfSome (number_from k names r) (λ n. n < k + length names)
number_below k [] r = tt
number_below k (q ∷ qs) r = by (bytes_eq q r)
    (weaker (number_from (suc k) qs r) (suc k + length qs) (k + suc (length qs)) (omega arith) (number_below (suc k) qs r))
  where
    by : (b : Bool) → IfSome (number_from (suc k) qs r) (λ n. n < k + suc (length qs))
        → IfSome (if b then Some k else number_from (suc k) qs r) (λ n. n < k + suc (length qs))
    by true later = omega arith
    by false later = later

module _ (names : List Bytes) (few : IsSmall (length names)) where
  number_small : (r : Bytes) → IfSome (number_of names r) IsSmall
  number_small r = weaker (number_of names r) (0 + length names) (2 ^ 64) (omega (arith, few)) (number_below 0 names r)

  numbered_plain : (ps : List (Bytes × ℕ)) → ArePlainItems (numbered names ps)
  numbered_plain [] = tt
  numbered_plain (p ∷ ps) = with_plain (number_of names p.0) p.1 (numbered names ps) (numbered_plain ps)

  numbered_small : (ps : List (Bytes × ℕ)) → AllByRecursion (λ p. IsSmall p.1) ps → ItemsHaveIntegers (numbered names ps)
  numbered_small [] small = tt
  numbered_small (p ∷ ps) small = with_small (number_of names p.0) p.1 (numbered names ps) (number_small p.0) small.0
      (numbered_small ps small.1)

  numbered_flat : (ps : List (Bytes × ℕ)) → items_depth (numbered names ps) ≤ 0
  numbered_flat [] = omega arith
  numbered_flat (p ∷ ps) = with_flat (number_of names p.0) p.1 (numbered names ps) (numbered_flat ps)

-- the frequencies of a table have 64 bits
equal : (o : Ordering) → is_eq o ≡ true → o ≡ Equal
equal Less e = absurd (true≢false (sym e))
equal Equal e = refl
equal Greater e = absurd (true≢false (sym e))

all_small : (es : List (Bytes × ℕ)) → T (is_sorted text_cmp es)
    → ((q : Bytes) (n : ℕ) → find text_cmp q es ≡ Some n → IsSmall n) → AllByRecursion (λ p. IsSmall p.1) es
all_small [] sorted small = tt
all_small (e ∷ es) sorted small = (
  small e.0 e.1 (ap (λ o. cond (is_eq o) (Some e.1) (find text_cmp e.0 es)) (text_itself e.0)),
  all_small es (second (below_all text_cmp e.0 es) (is_sorted text_cmp es) sorted)
      (λ q n found. by q n found (is_eq (text_cmp q e.0)) refl),
)
  where
    by : (q : Bytes) (n : ℕ) → find text_cmp q es ≡ Some n → (b : Bool) → is_eq (text_cmp q e.0) ≡ b → IsSmall n
    by q n found false other = small q n (ap (λ b. cond b (Some e.1) (find text_cmp q es)) other ∙ found)
    by q n found true tied =
        let same : q ≡ e.0 = exact q e.0 (equal (text_cmp q e.0) tied) in
        let none : Some n ≡ None = sym found ∙ ap (λ x. find text_cmp x es) same
        ∙ find_below e.0 es (first (below_all text_cmp e.0 es) (is_sorted text_cmp es) sorted) in
        absurd (cc (none))

frequencies_small : (table : Table) → IsTable table → (t : Text)
    → AllByRecursion (λ p. IsSmall p.1) (entries (postings table t))
frequencies_small table is t = all_small (entries (postings table t)) (entries_sorted (postings table t))
    (λ q n found. is.small t q n (get-entries (postings table t) q ∙ found))

-- ---- the members of a piece

module _ (names : List Bytes) (few : IsSmall (length names)) where
  fields_plain : (tables : List Table) (token : Bytes) → ArePlainItems (field_values names tables token)
  fields_plain [] token = tt
  fields_plain (table ∷ tables) token =
      (numbered_plain names few (entries (postings table (chars token))), fields_plain tables token)

  fields_small : (tables : List Table) (token : Bytes) → ((i : ℕ) (d : Table) → i < length tables
      → IsTable (get_or tables i d)) → ItemsHaveIntegers (field_values names tables token)
  fields_small [] token are = tt
  fields_small (table ∷ tables) token are = (
    numbered_small names few (entries (postings table (chars token)))
        (frequencies_small table (are zero table (omega arith)) (chars token)),
    fields_small tables token (λ i d lt. are (suc i) d (omega (arith, lt))),
  )

  fields_flat : (tables : List Table) (token : Bytes) → items_depth (field_values names tables token) ≤ 1
  fields_flat [] token = omega arith
  fields_flat (table ∷ tables) token =
      let flat = numbered_flat names few (entries (postings table (chars token))) in
      let here : suc (items_depth (numbered names (entries (postings table (chars token))))) ≤ 1 = omega (arith, flat) in
      max-le here (fields_flat tables token)

  module _ (tables : List Table) (are : (i : ℕ) (d : Table) → i < length tables → IsTable (get_or tables i d)) where
    members_plain : (tokens : List Bytes) → ArePlain (token_members names tables tokens)
    members_plain [] = tt
    members_plain (token ∷ tokens) = (fields_plain tables token, members_plain tokens)

    members_small : (tokens : List Bytes) → MembersHaveIntegers (token_members names tables tokens)
    members_small [] = tt
    members_small (token ∷ tokens) = (fields_small tables token are, members_small tokens)

    members_flat : (tokens : List Bytes) → members_depth (token_members names tables tokens) ≤ 2
    members_flat [] = omega arith
    members_flat (token ∷ tokens) =
        let flat = fields_flat tables token in
        let here : suc (items_depth (field_values names tables token)) ≤ 2 = omega (arith, flat) in
        max-le here (members_flat tokens)

    members_below : (k : Bytes) (tokens : List Bytes) → AllByRecursion (λ t. text_cmp k t ≡ Less) tokens
        → IsBelow k (token_members names tables tokens)
    members_below k [] all = tt
    members_below k (token ∷ tokens) all = (all.0, members_below k tokens all.1)

    members_in_order : (tokens : List Bytes) → IsStrictlySortedBy text_cmp tokens
        → HasKeysInOrder (token_members names tables tokens)
    unfolding IsStrictlySortedBy
    members_in_order [] sorted = tt
    members_in_order (token ∷ tokens) sorted = (members_below token tokens sorted.0, members_in_order tokens sorted.1)

    -- the text of a piece is read as its value
    pub piece_read : (tokens : List Bytes) → IsStrictlySortedBy text_cmp tokens
        → read (tries_text names tables tokens) ≡ Some (object (token_members names tables tokens))
    piece_read tokens sorted =
        let flat = members_flat tokens in
        let deep : suc (members_depth (token_members names tables tokens)) ≤ 127 = omega (arith, flat) in
        text_read (object (token_members names tables tokens)) (members_in_order tokens sorted, members_plain tokens)
        (members_small tokens) deep

-- ---- the groups of a cut

all_first : {A : Type 0} (P : A → Type 0) (xs ys : List A) → AllByRecursion P (xs ++ ys) → AllByRecursion P xs
all_first P [] ys all = tt
all_first P (x ∷ xs) ys all = (all.0, all_first P xs ys all.1)

sorted_first : (xs ys : List Bytes) → IsStrictlySortedBy text_cmp (xs ++ ys) → IsStrictlySortedBy text_cmp xs
unfolding IsStrictlySortedBy
sorted_first [] ys order = tt
sorted_first (x ∷ xs) ys order = (all_first (λ y. text_cmp x y ≡ Less) xs ys order.0, sorted_first xs ys order.1)

sorted_second : (xs ys : List Bytes) → IsStrictlySortedBy text_cmp (xs ++ ys) → IsStrictlySortedBy text_cmp ys
unfolding IsStrictlySortedBy
sorted_second [] ys order = order
sorted_second (x ∷ xs) ys order = sorted_second xs ys order.1

module _ (text_of : List Bytes → Bytes) (size : ℕ) where
  -- each group of tokens in order is in order
  pub group_sorted : (groups : List (List Bytes)) (tokens : List Bytes) (n : ℕ) → IsCut text_of size tokens groups
      → IsStrictlySortedBy text_cmp tokens → n < length groups → IsStrictlySortedBy text_cmp (get_or groups n [])
  group_sorted [] tokens n cut sorted lt = absurd (omega (arith, lt))
  group_sorted (g ∷ gs) tokens zero (more, split, is, cut) sorted lt =
      sorted_first g more (subst (IsStrictlySortedBy text_cmp) split sorted)
  group_sorted (g ∷ gs) tokens (suc n) (more, split, is, cut) sorted lt =
      group_sorted gs more n cut (sorted_second g more (subst (IsStrictlySortedBy text_cmp) split sorted))
      (omega (arith, lt))

  -- as many groups have a first token
  pub as_many_firsts : (groups : List (List Bytes)) (tokens : List Bytes) → IsCut text_of size tokens groups
      → length (firsts groups) ≡ length groups
  as_many_firsts [] tokens cut = refl
  as_many_firsts ([] ∷ gs) tokens (more, split, is, cut) = let none = is.some in absurd (omega (arith, none))
  as_many_firsts ((t ∷ ts) ∷ gs) tokens (more, split, is, cut) = ap suc (as_many_firsts gs more cut)
