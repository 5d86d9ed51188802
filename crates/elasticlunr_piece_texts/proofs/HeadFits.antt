-- What the head of the pieces of an index says fits together.
use Rattle.std.proofs.Common.{◌≡◌, ◌≢◌, ◌<◌, ◌+◌, ◌⊎◌, inl, inr, ℕ, zero, suc, Bool, true, false, true≢false, not, ◌||◌}
use Rattle.std.proofs.Common.{List, [], ◌∷◌, ◌++◌, length, map, get_or, Option, Some, None, refl, sym, ap, subst, ◌∙◌, arith}
use Rattle.std.proofs.Common.{Less, bytes_eq, if◌then◌else◌, length-append, string_bytes}
use Rattle.std.proofs.lemmas.List.{length-map}
use Rattle.std.proofs.lemmas.List.Sums.{sum_by-cons}
use Rattle.std.proofs.lemmas.Slice.Eq.{bytes_eq-Decides}
use Rattle.std.specs.FinMap.{entries}
use Rattle.std.specs.FinMap.Entries.{below_all, is_sorted}
use Rattle.std.specs.List.{AllByRecursion, AllPairs}
use Rattle.std.specs.List.Sorted.{IsStrictlySortedBy}
use Rattle.std.specs.Prelude.{◌&&◌, T, sum}
use Rattle.serde_json.specs.Data.{array, item, string}
use Rattle.elasticlunr_commands.specs.Fields.{all_differ, has_name}
use Rattle.elasticlunr_error.specs.Text.{Bytes, is_listed, text_cmp}
use Rattle.elasticlunr_json.specs.Maps.{count}
use Rattle.elasticlunr_piece_head.specs.Values as head
use Rattle.elasticlunr_pieces.specs.Cut.{IsCut}
use Rattle.elasticlunr_pieces.specs.Entries.{kept_documents, kept_titles, references, title_of}
use Rattle.elasticlunr_pieces.specs.Head.{all_lengths, counts, counts_of, field_lengths, firsts, length_value}
use Rattle.elasticlunr_print.specs.Printed as print
use Rattle.elasticlunr_store.specs.Contents.{Contents, TextMap, length_at}
use Rattle.elasticlunr_piece_texts.proofs.Found.{first, less, second}

-- ---- the members, as they are read

pub texts_items : (ts : List Bytes) → print.texts ts ≡ head.items_of string ts
texts_items [] = refl
texts_items (t ∷ ts) = ap (item (string t)) (texts_items ts)

pub counts_items : (ns : List ℕ) → counts ns ≡ head.items_of count ns
counts_items [] = refl
counts_items (n ∷ ns) = ap (item (count n)) (counts_items ns)

length_item : (o : Option ℕ) → length_value o ≡ head.length_value o
length_item None = refl
length_item (Some n) = refl

column_items : (contents : Contents) (field : Bytes) (names : List Bytes) → field_lengths contents field names
    ≡ head.items_of head.length_value (map (λ r. length_at contents r field) names)
column_items contents field [] = refl
column_items contents field (r ∷ rs) =
    λ i. item (length_item (length_at contents r field) i) (column_items contents field rs i)

pub columns_items : (contents : Contents) (fields names : List Bytes) → all_lengths contents fields names
    ≡ head.items_of (head.array_of head.length_value) (map (λ f. map (λ r. length_at contents r f) names) fields)
columns_items contents [] names = refl
columns_items contents (f ∷ fs) names =
    λ i. item (array (column_items contents f names i)) (columns_items contents fs names i)

pub counts_told : (ns ms : List ℕ) → counts ns ≡ head.items_of count ms → ms ≡ ns
counts_told [] [] e = refl
counts_told [] (m ∷ ms) e = absurd (cc)
counts_told (n ∷ ns) [] e = absurd (cc)
counts_told (n ∷ ns) (m ∷ ms) e =
    let here : m ≡ n = cc in
    let later : counts ns ≡ head.items_of count ms = cc in
    λ i. here i ∷ counts_told ns ms later i

-- ---- fields that differ

left_true : (a b : Bool) → a ≡ true → (a || b) ≡ true
left_true true b h = refl
left_true false b h = absurd (true≢false (sym h))

right_true : (a b : Bool) → b ≡ true → (a || b) ≡ true
right_true true b h = refl
right_true false b h = h

and_first : (a b : Bool) → (a && b) ≡ true → a ≡ true
and_first true b h = refl
and_first false b h = h

and_second : (a b : Bool) → (a && b) ≡ true → b ≡ true
and_second true b h = h
and_second false b h = absurd (true≢false (sym h))

not_both : (b : Bool) → not b ≡ true → b ≡ true → ⊥
not_both true e f = true≢false (sym e)
not_both false e f = true≢false (sym f)

named : (n : Bytes) (ns : List Bytes) (j : ℕ) (d : Bytes) → j < length ns → get_or ns j d ≡ n → has_name n ns ≡ true
named n [] j d lt e = absurd (omega (arith, lt))
named n (m ∷ ns) zero d lt e = left_true (bytes_eq m n) (has_name n ns) ((bytes_eq-Decides m n).1 e)
named n (m ∷ ns) (suc j) d lt e = right_true (bytes_eq m n) (has_name n ns) (named n ns j d (omega (arith, lt)) e)

pub differ : (ns : List Bytes) → all_differ ns ≡ true → AllPairs (λ name other. name ≢ other) ns
differ [] is i j d lt low same = omega (arith, lt, low)
differ (n ∷ ns) is zero zero d lt low same = omega (arith, lt)
differ (n ∷ ns) is zero (suc j) d lt low same = not_both (has_name n ns)
    (and_first (not (has_name n ns)) (all_differ ns) is) (named n ns j d (omega (arith, low)) (sym same))
differ (n ∷ ns) is (suc i) zero d lt low same = omega (arith, lt)
differ (n ∷ ns) is (suc i) (suc j) d lt low same = differ ns (and_second (not (has_name n ns)) (all_differ ns) is) i j d
    (omega (arith, lt)) (omega (arith, low)) same

-- ---- references and first tokens that rise

keys_above : {X : Type 0} (k : Bytes) (es : List (Bytes × X)) → T (below_all text_cmp k es)
    → AllByRecursion (λ y. text_cmp k y ≡ Less) (map (λ e. e.0) es)
keys_above k [] h = tt
keys_above k (e ∷ es) h = (less (text_cmp k e.0) (first _ _ h), keys_above k es (second _ _ h))

pub keys_rise : {X : Type 0} (es : List (Bytes × X)) → T (is_sorted text_cmp es)
    → IsStrictlySortedBy text_cmp (map (λ e. e.0) es)
unfolding IsStrictlySortedBy
keys_rise [] h = tt
keys_rise (e ∷ es) h = (keys_above e.0 es (first _ _ h), keys_rise es (second _ _ h))

all_second : {A : Type 0} (P : A → Type 0) (xs ys : List A) → AllByRecursion P (xs ++ ys) → AllByRecursion P ys
all_second P [] ys all = all
all_second P (x ∷ xs) ys all = all_second P xs ys all.1

sorted_second : (xs ys : List Bytes) → IsStrictlySortedBy text_cmp (xs ++ ys) → IsStrictlySortedBy text_cmp ys
unfolding IsStrictlySortedBy
sorted_second [] ys order = order
sorted_second (x ∷ xs) ys order = sorted_second xs ys order.1

all_above : (x : Bytes) (xs : List Bytes) → IsStrictlySortedBy text_cmp (x ∷ xs)
    → AllByRecursion (λ y. text_cmp x y ≡ Less) xs
unfolding IsStrictlySortedBy
all_above x xs order = order.0

rising : (x : Bytes) (xs : List Bytes) → AllByRecursion (λ y. text_cmp x y ≡ Less) xs
    → IsStrictlySortedBy text_cmp xs → IsStrictlySortedBy text_cmp (x ∷ xs)
unfolding IsStrictlySortedBy
rising x xs all order = (all, order)

none_rise : IsStrictlySortedBy text_cmp []
unfolding IsStrictlySortedBy
none_rise = tt

module _ (text_of : List Bytes → Bytes) (size : ℕ) where
  firsts_above : (t : Bytes) (groups : List (List Bytes)) (tokens : List Bytes) → IsCut text_of size tokens groups
      → AllByRecursion (λ y. text_cmp t y ≡ Less) tokens → AllByRecursion (λ y. text_cmp t y ≡ Less) (firsts groups)
  firsts_above t [] tokens cut all = tt
  firsts_above t ([] ∷ gs) tokens (more, split, is, cut) all = let none = is.some in absurd (omega (arith, none))
  firsts_above t ((u ∷ us) ∷ gs) tokens (more, split, is, cut) all =
      let these = subst (AllByRecursion (λ y. text_cmp t y ≡ Less)) split all in
      (these.0, firsts_above t gs more cut (all_second (λ y. text_cmp t y ≡ Less) us more these.1))

  pub firsts_rise : (groups : List (List Bytes)) (tokens : List Bytes) → IsCut text_of size tokens groups
      → IsStrictlySortedBy text_cmp tokens → IsStrictlySortedBy text_cmp (firsts groups)
  firsts_rise [] tokens cut sorted = none_rise
  firsts_rise ([] ∷ gs) tokens (more, split, is, cut) sorted = let none = is.some in absurd (omega (arith, none))
  firsts_rise ((t ∷ ts) ∷ gs) tokens (more, split, is, cut) sorted =
      let these : IsStrictlySortedBy text_cmp ((t ∷ ts) ++ more) = subst (IsStrictlySortedBy text_cmp) split sorted in
      rising t (firsts gs) (firsts_above t gs more cut (all_second (λ y. text_cmp t y ≡ Less) ts more
      (all_above t (ts ++ more) these))) (firsts_rise gs more cut (sorted_second (t ∷ ts) more these))

-- ---- how many documents pieces have

module _ {A : Type 0} (text_of : List A → Bytes) (size : ℕ) where
  pub counts_total : (groups : List (List A)) (es : List A) → IsCut text_of size es groups
      → sum (counts_of groups) ≡ length es
  counts_total [] es cut = ap length (sym cut)
  counts_total (g ∷ gs) es (more, split, is, cut) =
      sum_by-cons (λ x. x) (length g) (counts_of gs) ∙ ap (λ n. length g + n) (counts_total gs more cut)
      ∙ sym (length-append g more) ∙ ap length (sym split)

  pub counts_some : (groups : List (List A)) (es : List A) → IsCut text_of size es groups
      → AllByRecursion (λ c. c ≢ 0) (counts_of groups)
  counts_some [] es cut = tt
  counts_some (g ∷ gs) es (more, split, is, cut) =
      (λ none. let some = is.some in omega (arith, some, none), counts_some gs more cut)

kept : {X Y : Type 0} (b : Bool) (es : List (X × Y)) → length (if b then map (λ e. e.1) es else [])
    ≡ (if b then length (map (λ e. e.0) es) else 0)
kept true es = length-map es (λ e. e.1) ∙ sym (length-map es (λ e. e.0))
kept false es = refl

pub kept_many : (contents : Contents) → length (kept_documents contents)
    ≡ (if contents.save then length (references contents) else 0)
kept_many contents = kept contents.save (entries contents.texts)

none_or_all : {X Y : Type 0} (b : Bool) (f : X → Y) (xs : List X) → (length (if b then map f xs else []) ≡ 0)
    ⊎ (length (if b then map f xs else []) ≡ length xs)
none_or_all true f xs = inr (length-map xs f)
none_or_all false f xs = inl refl

pub titles_many : (fields : List Bytes) (field : Bytes) (contents : Contents)
    → (length (kept_titles fields field contents) ≡ 0)
    ⊎ (length (kept_titles fields field contents) ≡ length (kept_documents contents))
titles_many fields field contents =
    none_or_all (is_listed field fields) (title_of field) (kept_documents contents)
