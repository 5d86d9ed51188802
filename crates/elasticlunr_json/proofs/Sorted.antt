-- What the entries of a map represent, in order.
use Rattle.std.proofs.Common.{◌≡◌, suc, true, false, cond, Option, Some, IfSome, is_eq, List, [], ◌∷◌, ◌++◌, map}
use Rattle.std.proofs.Common.{length, refl, sym, ap, subst, ◌∙◌, string_bytes, string_cmp, String, Global, Bool, Less}
use Rattle.std.proofs.Common.{Greater, rules}
use Rattle.std.specs.Ordering.{nat_cmp, ordering_reverse}
use Rattle.std.specs.Cmp.Lexicographic.{slice_cmp}
use Rattle.std.proofs.lemmas.Cmp.{nat_list_cmp_total}
use Rattle.std.specs.List.{AllByRecursion}
use Rattle.std.proofs.lemmas.List.{nil_from_length}
use Rattle.std.specs.List.Sorted.{IsStrictlySortedBy}
use Rattle.std.specs.Map.{keys_of}
use Rattle.std.specs.FinMap as finite
use Rattle.serde_json.specs.Data.{Data, object, string, boolean, no_members, member, put}
use Rattle.serde_json.specs.View.{view}
use Rattle.serde_json.specs.declared.value.Value.{the_lemmas}
use Rattle.serde_json.specs.declared.value.Value as Value
use Rattle.elasticlunr_json.proofs.Texts.{text_tied}
use Rattle.elasticlunr_error.specs.Text.{Bytes, text_cmp}
use Rattle.elasticlunr_json.specs.Maps.{members, keyed, seen}

-- a key below all others is below one of them
pub below_middle : {X : Type 0} (first : String Global × X) (es : List (String Global × X)) (e : String Global × X)
    (more : List (String Global × X)) → AllByRecursion (λ y. string_cmp first.0 y ≡ Less) (keys_of (es ++ e ∷ more))
    → string_cmp first.0 e.0 ≡ Less
below_middle first [] e more h = h.0
below_middle first (x ∷ es) e more h = below_middle first es e more h.1

module _ {X Y : Type 0} (f : X → Y) where
  -- the entries, as they are seen
  abbrev pub shown : List (String Global × X) → List (Bytes × Y)
  shown es = map (λ e. (string_bytes e.0, f e.1)) es

  -- a key below all others goes first
  first_put : (k : Bytes) (v : Y) (es : List (Bytes × Y)) → AllByRecursion (λ y. slice_cmp nat_cmp k y ≡ Less)
      (map (λ e. e.0) es) → finite.put text_cmp k v es ≡ (k, v) ∷ es
  first_put k v [] h = refl
  first_put k v (e ∷ es) h = rw h.0

  keys_shown : (k : String Global) (es : List (String Global × X))
      → AllByRecursion (λ y. string_cmp k y ≡ Less) (keys_of es)
      → AllByRecursion (λ y. slice_cmp nat_cmp (string_bytes k) y ≡ Less) (map (λ e. e.0) (shown es))
  keys_shown k [] h = tt
  keys_shown k (e ∷ es) h = (h.0, keys_shown k es h.1)

  -- the entries of a map stand in order
  pub entries_seen : (es : List (String Global × X)) → IsStrictlySortedBy string_cmp (keys_of es)
      → finite.entries (seen f es) ≡ shown es
  unfolding IsStrictlySortedBy
  entries_seen [] h = nil_from_length _ (sym (finite.len-entries (seen f [])) ∙ finite.len-empty text_cmp Y)
  entries_seen (e ∷ es) h =
      finite.entries-insert nat_list_cmp_total (seen f es) (string_bytes e.0) (f e.1)
      ∙ ap (finite.put text_cmp (string_bytes e.0) (f e.1)) (entries_seen es h.1)
      ∙ first_put (string_bytes e.0) (f e.1) (shown es) (keys_shown e.0 es h.0)

  length_shown : (es : List (String Global × X)) → length (shown es) ≡ length es
  length_shown [] = refl
  length_shown (e ∷ es) = ap suc (length_shown es)

  pub len_seen : (es : List (String Global × X)) → IsStrictlySortedBy string_cmp (keys_of es) → finite.len (seen f es)
      ≡ length es
  len_seen es h = finite.len-entries (seen f es) ∙ ap length (entries_seen es h) ∙ length_shown es

  module _ (value : Y → Data) where
    -- a key above those before it goes last
    pub put_last : (done : List (String Global × X)) (e : String Global × X) (more : List (String Global × X))
        (d : Data) → IsStrictlySortedBy string_cmp (keys_of (done ++ e ∷ more))
        → d ≡ value (f e.1) → put (string_bytes e.0) d (members value (shown done))
        ≡ members value (shown (done ++ e ∷ []))
    unfolding IsStrictlySortedBy
    put_last [] e more d h is = ap (λ x. member (string_bytes e.0) x no_members) is
    put_last (first ∷ done) e more d h is =
        let above : slice_cmp nat_cmp (string_bytes e.0) (string_bytes first.0) ≡ Greater =
        nat_list_cmp_total.antisymm (string_bytes e.0) (string_bytes first.0)
        ∙ ap ordering_reverse (below_middle first done e more h.0) in
        rw above (ap (member (string_bytes first.0) (value (f first.1))) (put_last done e more d h.1 is))

    -- all members of the object
    pub whole : (es : List (String Global × X)) → IsStrictlySortedBy string_cmp (keys_of es)
        → object (members value (shown es)) ≡ keyed value (seen f es)
    whole es h = ap (λ xs. object (members value xs)) (sym (entries_seen es h))

pub view-String : (s : String Global) → view (Value.String s) ≡ string (string_bytes s)
view-String s = search (rules, the_lemmas)

pub view-Bool : (b : Bool) → view (Value.Bool b) ≡ boolean b
view-Bool b = search (rules, the_lemmas)

-- the value at a text is that of the entry which has it
module _ {X Y : Type 0} (f : X → Y) where
  get_entry_in : (done : List (String Global × X)) (e : String Global × X) (more : List (String Global × X))
      → IsStrictlySortedBy string_cmp (keys_of (done ++ e ∷ more))
      → finite.find text_cmp (string_bytes e.0) (shown f (done ++ e ∷ more)) ≡ Some (f e.1)
  unfolding IsStrictlySortedBy
  get_entry_in [] e more h = ap (λ b. cond b (Some (f e.1)) (finite.find text_cmp (string_bytes e.0) (shown f more)))
      (text_tied (string_bytes e.0))
  get_entry_in (d ∷ done) e more h =
      let above : slice_cmp nat_cmp (string_bytes e.0) (string_bytes d.0) ≡ Greater =
      nat_list_cmp_total.antisymm (string_bytes e.0) (string_bytes d.0)
      ∙ ap ordering_reverse (below_middle d done e more h.0) in
      ap (λ o. cond (is_eq o) (Some (f d.1)) (finite.find text_cmp (string_bytes e.0) (shown f (done ++ e ∷ more))))
      above ∙ get_entry_in done e more h.1

  pub get_entry : (all done : List (String Global × X)) (e : String Global × X) (more : List (String Global × X))
      → done ++ e ∷ more ≡ all → IsStrictlySortedBy string_cmp (keys_of all)
      → finite.get (seen f all) (string_bytes e.0) ≡ Some (f e.1)
  get_entry all done e more split h =
      finite.get-from_entries nat_list_cmp_total _ (string_bytes e.0)
      ∙ ap (λ es. finite.find text_cmp (string_bytes e.0) (shown f es)) (sym split)
      ∙ get_entry_in done e more (subst (λ es. IsStrictlySortedBy string_cmp (keys_of es)) (sym split) h)

  found_all : (P : Y → Type 0) (b : Bool) (y : Y) (o : Option Y) → P y → IfSome o P → IfSome (cond b (Some y) o) P
  found_all P true y o p q = p
  found_all P false y o p q = q

  find_all : (P : Y → Type 0) (es : List (String Global × X)) (r : Bytes) → AllByRecursion (λ e. P (f e.1)) es
      → IfSome (finite.find text_cmp r (shown f es)) P
  find_all P [] r h = tt
  find_all P (e ∷ es) r h = found_all P (is_eq (slice_cmp nat_cmp r (string_bytes e.0))) (f e.1) _ h.0
      (find_all P es r h.1)

  -- what holds of each value holds of each that is found
  pub get_all : (P : Y → Type 0) (es : List (String Global × X)) (r : Bytes) → AllByRecursion (λ e. P (f e.1)) es
      → IfSome (finite.get (seen f es) r) P
  get_all P es r h = subst (λ o. IfSome o P) (sym (finite.get-from_entries nat_list_cmp_total _ r)) (find_all P es r h)

  pub all_more : (P : String Global × X → Type 0) (done : List (String Global × X)) (e : String Global × X)
      → AllByRecursion P done → P e → AllByRecursion P (done ++ e ∷ [])
  all_more P [] e h p = (p, tt)
  all_more P (d ∷ done) e h p = (h.0, all_more P done e h.1 p)
