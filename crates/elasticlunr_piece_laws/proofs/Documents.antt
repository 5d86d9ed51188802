-- The documents that a head has, and their lengths.
use Rattle.std.proofs.Common.{◌≡◌, ◌+◌, ℕ, Bool, true, false, true≢false, ◌||◌, cond, List, [], ◌∷◌, length, map}
use Rattle.std.proofs.Common.{Option, Some, None, is_some, option_and_then, refl, sym, ap, ◌∙◌, arith, bytes_eq}
use Rattle.std.proofs.Common.{Less, Equal, Greater, if◌then◌else◌, inl, inr, ◌⊎◌}
use Rattle.std.proofs.lemmas.Slice.Eq.{bytes_eq-Decides}
use Rattle.std.proofs.lemmas.Cmp.{nat_list_cmp_total}
use Rattle.std.proofs.lemmas.Map.Text.{is_eq-slice_cmp}
use Rattle.std.specs.Prelude.{◌&&◌, T, string_bytes, unwrap_or}
use Rattle.std.specs.List.{list_any}
use Rattle.std.specs.FinMap as finite
use Rattle.std.specs.FinMap.Entries.{below_all, is_sorted}
use Rattle.std.specs.Ordering.{eq_by_cmp, is_lt, ordering_reverse}
use Rattle.std.specs.declared.cmp.Ordering.{Ordering}
use Rattle.elasticlunr_error.specs.Text.{Bytes, is_listed, text_cmp}
use Rattle.elasticlunr_store.specs.Contents.{Contents, LengthMap, TextMap, field_length, length_at, new_contents}
use Rattle.elasticlunr_store.specs.Contents.{with_document, with_length}
use Rattle.elasticlunr_piece_head.specs.declared.head.PieceHead.{PieceHead}
use Rattle.elasticlunr_piece_search.specs.Documents.{head_contents, with_all_lengths, with_documents}
use Rattle.elasticlunr_piece_search.specs.Documents.{with_length_of, with_lengths}
use Rattle.elasticlunr_pieces.specs.Entries.{references}
use Rattle.elasticlunr_print.specs.declared.parts.Parts.{Parts}
use Rattle.elasticlunr_piece_laws.specs.Heads.{IsHeadOf}

either : (a b : Bool) → (a || b) ≡ true → (a ≡ true) ⊎ (b ≡ true)
either true b h = inl refl
either false b h = inr h

found_after_insert : {X : Type 0} (m : finite.FinMap text_cmp X) (key : Bytes) (value : X) (q : Bytes)
    → finite.get (finite.insert m key value) q ≡ cond (bytes_eq q key) (Some value) (finite.get m q)
found_after_insert m key value q = finite.get-insert nat_list_cmp_total m key value q
    ∙ ap (λ b. cond b (Some value) (finite.get m q)) (is_eq-slice_cmp q key)

has_after_insert : {X : Type 0} (m : finite.FinMap text_cmp X) (key : Bytes) (value : X) (q : Bytes)
    → finite.contains_key (finite.insert m key value) q ≡ (bytes_eq q key || finite.contains_key m q)
has_after_insert {X = X} m key value q = ap is_some (found_after_insert m key value q) ∙ by (bytes_eq q key) (finite.get m q)
  where
    by : (b : Bool) (o : Option X) → is_some (cond b (Some value) o) ≡ (b || is_some o)
    by true o = refl
    by false o = refl

-- ---- which documents there are

swapped : (a b c : Bool) → (a || (b || c)) ≡ ((b || a) || c)
swapped true true c = refl
swapped true false c = refl
swapped false true c = refl
swapped false false c = refl

has_documents : (c : Contents) (rs : List Bytes) (q : Bytes) → finite.contains_key (with_documents c rs).texts q
    ≡ (is_listed q rs || finite.contains_key c.texts q)
has_documents c [] q = refl
has_documents c (r ∷ rs) q = has_documents (with_document c r finite.empty) rs q
    ∙ ap (λ b. is_listed q rs || b) (has_after_insert c.texts r (if c.save then finite.empty else finite.empty) q)
    ∙ swapped (is_listed q rs) (bytes_eq q r) (finite.contains_key c.texts q)

texts_of_lengths : (c : Contents) (field : Bytes) (rs : List Bytes) (ns : List (Option ℕ))
    → (with_lengths c field rs ns).texts ≡ c.texts
texts_of_lengths c field [] ns = refl
texts_of_lengths c field (r ∷ rs) [] = refl
texts_of_lengths c field (r ∷ rs) (None ∷ ns) = texts_of_lengths c field rs ns
texts_of_lengths c field (r ∷ rs) (Some n ∷ ns) = texts_of_lengths (with_length c r field n) field rs ns

texts_of_all : (c : Contents) (fields rs : List Bytes) (columns : List (List (Option ℕ)))
    → (with_all_lengths c fields rs columns).texts ≡ c.texts
texts_of_all c [] rs columns = refl
texts_of_all c (f ∷ fs) rs [] = refl
texts_of_all c (f ∷ fs) rs (ns ∷ columns) = texts_of_all (with_lengths c f rs ns) fs rs columns
    ∙ texts_of_lengths c f rs ns

first : (a b : Bool) → T (a && b) → T a
first true b p = tt
first false b p = p

second : (a b : Bool) → T (a && b) → T b
second true b p = p
second false b p = absurd p

less : (o : Ordering) → T (is_lt o) → o ≡ Less
less Less p = refl
less Equal p = absurd p
less Greater p = absurd p

below_listed : {X : Type 0} (r q : Bytes) (es : List (Bytes × X)) → T (below_all text_cmp r es)
    → is_listed q (map (λ e. e.0) es) ≡ true → text_cmp r q ≡ Less
below_listed r q [] h is = absurd (true≢false (sym is))
below_listed r q (e ∷ es) h is = elim (either (bytes_eq q e.0) _ is) [
  | inl here ↦ ap (text_cmp r) ((bytes_eq-Decides q e.0).0 here) ∙ less _ (first _ _ h)
  | inr later ↦ below_listed r q es (second _ _ h) later
]

itself_equal : (o : Ordering) → o ≡ ordering_reverse o → o ≡ Equal
itself_equal Less e = cc
itself_equal Equal e = refl
itself_equal Greater e = cc

differs : (r q : Bytes) (b : Bool) → bytes_eq q r ≡ b → text_cmp r q ≡ Less → b ≡ false
differs r q false e below = refl
differs r q true e below =
    let same : text_cmp r r ≡ Less = ap (text_cmp r) (sym ((bytes_eq-Decides q r).0 e)) ∙ below in
    let equal = itself_equal (text_cmp r r) (nat_list_cmp_total.antisymm r r) in absurd (cc (same, equal))

itself : (x : Bytes) (xs : List Bytes) → is_listed x (x ∷ xs) ≡ true
itself x xs = ap (λ b. b || is_listed x xs) ((bytes_eq-Decides x x).1 refl)

behind : (a b : Bool) → b ≡ true → (a || b) ≡ true
behind true b h = refl
behind false b h = h

-- as many documents as references
many_documents : {X : Type 0} (c : Contents) (es : List (Bytes × X)) → T (is_sorted text_cmp es)
    → ((q : Bytes) → is_listed q (map (λ e. e.0) es) ≡ true → finite.contains_key c.texts q ≡ false)
    → finite.len (with_documents c (map (λ e. e.0) es)).texts ≡ finite.len c.texts + length es
many_documents c [] sorted new = omega arith
many_documents {X} c (e ∷ es) sorted new =
    let value : TextMap = if c.save then finite.empty else finite.empty in
    let one : finite.len (with_document c e.0 finite.empty).texts ≡ finite.len c.texts + 1 =
    finite.len-insert nat_list_cmp_total c.texts e.0 value
    ∙ ap (λ b. cond b (finite.len c.texts) (finite.len c.texts + 1)) (new e.0 (itself e.0 (map (λ e. e.0) es))) in
    let rest : finite.len (with_documents (with_document c e.0 finite.empty) (map (λ e. e.0) es)).texts
    ≡ finite.len (with_document c e.0 finite.empty).texts + length es =
    many_documents (with_document c e.0 finite.empty) es (second _ _ sorted)
    (λ q is. has_after_insert c.texts e.0 value q
    ∙ ap (λ b. b || finite.contains_key c.texts q) (differs e.0 q (bytes_eq q e.0) refl
    (below_listed e.0 q es (first _ _ sorted) is))
    ∙ new q (behind (bytes_eq q e.0) _ is)) in
    omega (arith, one, rest)

-- ---- their lengths

length_after : (c : Contents) (reference field : Bytes) (n : ℕ) (r f : Bytes)
    → length_at (with_length c reference field n) r f
    ≡ cond (bytes_eq r reference) (cond (bytes_eq f field) (Some n) (length_at c reference f)) (length_at c r f)
length_after c reference field n r f = ap (option_and_then (λ lengths. finite.get lengths f))
    (found_after_insert c.lengths reference lengths r) ∙ by_test (bytes_eq r reference) where
      lengths : LengthMap
      lengths = finite.insert (unwrap_or (finite.get c.lengths reference) finite.empty) field n

      old : (o : Option LengthMap) → finite.get (unwrap_or o finite.empty) f ≡ option_and_then (λ m. finite.get m f) o
      old None = finite.get-empty text_cmp f
      old (Some m) = refl

      by_test : (b : Bool) → option_and_then (λ m. finite.get m f) (cond b (Some lengths) (finite.get c.lengths r))
          ≡ cond b (cond (bytes_eq f field) (Some n) (length_at c reference f)) (length_at c r f)
      by_test true = found_after_insert (unwrap_or (finite.get c.lengths reference) finite.empty) field n f
          ∙ ap (cond (bytes_eq f field) (Some n)) (old (finite.get c.lengths reference))
      by_test false = refl

abbrev or_else : Option ℕ → Option ℕ → Option ℕ
or_else None y = y
or_else (Some x) y = Some x

again : (x y : Option ℕ) → or_else x (or_else x y) ≡ or_else x y
again None y = refl
again (Some x) y = refl

module _ (W : Contents) where
  -- the length that one step sets
  one_length : (c : Contents) (f q : Bytes) (o : Option ℕ) → o ≡ length_at W q f → (r g : Bytes)
      → length_at (with_length_of c f q o) r g
      ≡ cond (bytes_eq r q && bytes_eq g f) (or_else (length_at W r g) (length_at c r g)) (length_at c r g)
  one_length c f q None is r g = by (bytes_eq r q) refl (bytes_eq g f) refl
    where
      by : (a : Bool) → bytes_eq r q ≡ a → (b : Bool) → bytes_eq g f ≡ b
          → length_at c r g ≡ cond (a && b) (or_else (length_at W r g) (length_at c r g)) (length_at c r g)
      by true e true h =
          let none : length_at W r g ≡ None = (λ i. length_at W ((bytes_eq-Decides r q).0 e i) ((bytes_eq-Decides g f).0 h i))
          ∙ sym is in sym (ap (λ o. or_else o (length_at c r g)) none)
      by true e false h = refl
      by false e b h = refl
  one_length c f q (Some n) is r g = length_after c q f n r g ∙ by (bytes_eq r q) refl (bytes_eq g f) refl
    where
      by : (a : Bool) → bytes_eq r q ≡ a → (b : Bool) → bytes_eq g f ≡ b
          → cond a (cond b (Some n) (length_at c q g)) (length_at c r g)
          ≡ cond (a && b) (or_else (length_at W r g) (length_at c r g)) (length_at c r g)
      by true e true h =
          let some : length_at W r g ≡ Some n = (λ i. length_at W ((bytes_eq-Decides r q).0 e i) ((bytes_eq-Decides g f).0 h i))
          ∙ sym is in sym (ap (λ o. or_else o (length_at c r g)) some)
      by true e false h = ap (λ x. length_at c x g) (sym ((bytes_eq-Decides r q).0 e))
      by false e b h = refl

  joined : (a b l : Bool) (w x y z : Option ℕ) → y ≡ cond (a && b) (or_else w x) x → z ≡ cond (l && b) (or_else w y) y
      → z ≡ cond ((a || l) && b) (or_else w x) x
  joined true true true w x y z e f = f ∙ ap (or_else w) e ∙ again w x
  joined true true false w x y z e f = f ∙ e
  joined true false true w x y z e f = f ∙ e
  joined true false false w x y z e f = f ∙ e
  joined false true true w x y z e f = f ∙ ap (or_else w) e
  joined false true false w x y z e f = f ∙ e
  joined false false true w x y z e f = f ∙ e
  joined false false false w x y z e f = f ∙ e

  column_lengths : (c : Contents) (f : Bytes) (rs : List Bytes) (r g : Bytes)
      → length_at (with_lengths c f rs (map (λ q. length_at W q f) rs)) r g
      ≡ cond (is_listed r rs && bytes_eq g f) (or_else (length_at W r g) (length_at c r g)) (length_at c r g)
  column_lengths c f [] r g = refl
  column_lengths c f (q ∷ rs) r g =
      let next = with_length_of c f q (length_at W q f) in
      joined (bytes_eq r q) (bytes_eq g f) (is_listed r rs) (length_at W r g) (length_at c r g) (length_at next r g)
      (length_at (with_lengths next f rs (map (λ q. length_at W q f) rs)) r g)
      (one_length c f q (length_at W q f) refl r g) (column_lengths next f rs r g)

  beside : (a b l : Bool) (w x y z : Option ℕ) → y ≡ cond (l && a) (or_else w x) x → z ≡ cond (b && l) (or_else w y) y
      → z ≡ cond ((a || b) && l) (or_else w x) x
  beside true true true w x y z e f = f ∙ ap (or_else w) e ∙ again w x
  beside true true false w x y z e f = f ∙ e
  beside true false true w x y z e f = f ∙ e
  beside true false false w x y z e f = f ∙ e
  beside false true true w x y z e f = f ∙ ap (or_else w) e
  beside false true false w x y z e f = f ∙ e
  beside false false true w x y z e f = f ∙ e
  beside false false false w x y z e f = f ∙ e

  all_lengths : (c : Contents) (fields rs : List Bytes) (r g : Bytes)
      → length_at (with_all_lengths c fields rs (map (λ f. map (λ q. length_at W q f) rs) fields)) r g
      ≡ cond (is_listed g fields && is_listed r rs) (or_else (length_at W r g) (length_at c r g)) (length_at c r g)
  all_lengths c [] rs r g = refl
  all_lengths c (f ∷ fs) rs r g =
      let next = with_lengths c f rs (map (λ q. length_at W q f) rs) in
      beside (bytes_eq g f) (is_listed g fs) (is_listed r rs) (length_at W r g) (length_at c r g) (length_at next r g)
      (length_at (with_all_lengths next fs rs (map (λ f. map (λ q. length_at W q f) rs) fs)) r g)
      (column_lengths c f rs r g) (all_lengths next fs rs r g)

-- ---- those of a head

lengths_of_documents : (c : Contents) (rs : List Bytes) → (with_documents c rs).lengths ≡ c.lengths
lengths_of_documents c [] = refl
lengths_of_documents c (r ∷ rs) = lengths_of_documents (with_document c r finite.empty) rs

listed_by_order : (q : Bytes) (xs : List Bytes) → list_any (eq_by_cmp text_cmp q) xs ≡ is_listed q xs
listed_by_order q [] = refl
listed_by_order q (x ∷ xs) = λ i. is_eq-slice_cmp q x i || listed_by_order q xs i

has_no_more : (b : Bool) → (b || false) ≡ b
has_no_more true = refl
has_no_more false = refl

or_none : (x : Option ℕ) → or_else x None ≡ x
or_none None = refl
or_none (Some x) = refl

module _ (W : Contents) (save : Bool) (fields : List Bytes) where
  -- the contents of a head of documents with these lengths
  abbrev pub made : Contents
  made = with_all_lengths (with_documents (new_contents save) (references W)) fields (references W)
      (map (λ f. map (λ q. length_at W q f) (references W)) fields)

  none_there : (q : Bytes) → finite.contains_key (new_contents save).texts q ≡ false
  none_there q = ap is_some (finite.get-empty text_cmp q)

  made_texts : made.texts ≡ (with_documents (new_contents save) (references W)).texts
  made_texts = texts_of_all (with_documents (new_contents save) (references W)) fields (references W)
      (map (λ f. map (λ q. length_at W q f) (references W)) fields)

  made_many : finite.len made.texts ≡ finite.len W.texts
  made_many =
      let many = many_documents (new_contents save) (finite.entries W.texts) (finite.entries_sorted W.texts)
      (λ q is. none_there q) in
      let none : finite.len (new_contents save).texts ≡ 0 = finite.len-empty text_cmp TextMap in
      let all = finite.len-entries W.texts in
      ap finite.len made_texts ∙ omega (arith, many, none, all)

  made_has : (r : Bytes) → finite.contains_key made.texts r ≡ is_listed r (references W)
  made_has r = ap (λ m. finite.contains_key m r) made_texts
      ∙ has_documents (new_contents save) (references W) r
      ∙ ap (λ b. is_listed r (references W) || b) (none_there r) ∙ has_no_more (is_listed r (references W))

  whole_has : (r : Bytes) → finite.contains_key W.texts r ≡ is_listed r (references W)
  whole_has r = finite.contains_key-keys W.texts r ∙ listed_by_order r (references W)

  no_length : (r g : Bytes) → length_at (with_documents (new_contents save) (references W)) r g ≡ None
  no_length r g = ap (λ m. option_and_then (λ l. finite.get l g) (finite.get m r))
      (lengths_of_documents (new_contents save) (references W))
      ∙ ap (option_and_then (λ l. finite.get l g)) (finite.get-empty text_cmp r)

  made_length : (r g : Bytes) → is_listed g fields ≡ true → is_listed r (references W) ≡ true
      → length_at made r g ≡ length_at W r g
  made_length r g in_fields in_names =
      all_lengths W (with_documents (new_contents save) (references W)) fields (references W) r g
      ∙ (λ i. cond (in_fields i && in_names i) (or_else (length_at W r g) (no_length r g i)) (no_length r g i))
      ∙ or_none (length_at W r g)

  made_field_length : (r g : Bytes) → is_listed g fields ≡ true → field_length made r g ≡ field_length W r g
  made_field_length r g in_fields =
      ap (λ b. if b then unwrap_or (length_at made r g) 0 else 0) (made_has r)
      ∙ by (is_listed r (references W)) refl
      ∙ ap (λ b. if b then unwrap_or (length_at W r g) 0 else 0) (sym (whole_has r))
    where
      by : (b : Bool) → is_listed r (references W) ≡ b
          → (if b then unwrap_or (length_at made r g) 0 else 0) ≡ (if b then unwrap_or (length_at W r g) 0 else 0)
      by true e = ap (λ o. unwrap_or o 0) (made_length r g in_fields e)
      by false e = refl

module _ (parts : Parts) (tries : List (List Bytes)) (head : PieceHead) (is : IsHeadOf parts tries head) where
  contents_are : head_contents head ≡ made parts.store.now head.save (map string_bytes parts.fields.now)
  contents_are = λ i. with_all_lengths (with_documents (new_contents head.save) (is.names i)) (is.fields i) (is.names i)
      (is.lengths i)

  pub as_many : finite.len (head_contents head).texts ≡ finite.len parts.store.now.texts
  as_many = ap (λ c. finite.len c.texts) contents_are
      ∙ made_many parts.store.now head.save (map string_bytes parts.fields.now)

  pub same_lengths : (r name : Bytes) → is_listed name (map string_bytes parts.fields.now) ≡ true
      → field_length (head_contents head) r name ≡ field_length parts.store.now r name
  same_lengths r name there = ap (λ c. field_length c r name) contents_are
      ∙ made_field_length parts.store.now head.save (map string_bytes parts.fields.now) r name there
