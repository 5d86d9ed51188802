-- Reading search options.
use Rattle.std.proofs.Common.{◌≡◌, ◌≢◌, inl, inr, List, [], ◌∷◌, ◌++◌, Option, Some, None, refl, sym, ap, subst, ◌∙◌}
use Rattle.std.proofs.Common.{string_bytes, string_cmp, cond, Greater}
use Rattle.std.specs.List.Sorted.{IsStrictlySortedBy}
use Rattle.std.specs.Ordering.{nat_cmp, match_ordering, ordering_reverse}
use Rattle.std.specs.Cmp.Lexicographic.{slice_cmp}
use Rattle.std.specs.Map.{keys_of}
use Rattle.std.specs.FinMap as map
use Rattle.std.proofs.lemmas.Cmp.{nat_list_cmp_total, tied_itself}
use Rattle.serde_json.specs.Data.{Data, null, object, put}
use Rattle.serde_json.specs.Find.{get_member}
use Rattle.serde_json.specs.View.{view, members_view}
use Rattle.serde_json.proofs.Views.{Entry, put_last, get_member-put, get_member-put_other}
use Rattle.elasticlunr_error.specs.Text.{Bytes}
use Rattle.elasticlunr_store.specs.Options.{FieldMap, IsPart, ReadsAt, ReadsField, ReadsFields}
use Rattle.elasticlunr_store.specs.declared.config.SearchOptionsField.{SearchOptionsField}
use Rattle.elasticlunr_json.proofs.Texts.{same_or_not, text_tied, no_tie}
use Rattle.elasticlunr_json.proofs.Sorted.{below_middle}

-- a value that is none of a part's
pub not_part : {X : Type 0} (value : X → Data) (found : Option Data) (d : Data) → found ≡ Some d → d ≢ null
    → (part : Option X) → ((x : X) → part ≡ Some x → d ≢ value x) → ¬ (IsPart value found part)
not_part value found d is some None none (inl absent) = let bad = sym absent ∙ is in absurd (cc)
not_part value found d is some None none (inr empty) = let both : Some d ≡ Some null = sym is ∙ empty in some (cc)
not_part value found d is some (Some x) none there = let both : Some d ≡ Some (value x) = sym is
    ∙ there in none x refl (cc)

-- one more member, and one more field
pub read_more : (m n : FieldMap) (done : List Entry) (e : Entry) (more : List Entry) (field : SearchOptionsField)
    → IsStrictlySortedBy string_cmp (keys_of (done ++ e ∷ more))
    → ((name : Bytes) → ReadsAt (get_member name (members_view done)) (map.get m name)) → n
    ≡ map.insert m (string_bytes e.0) field → ReadsField (view e.1) field → (name : Bytes)
    → ReadsAt (get_member name (members_view (done ++ e ∷ []))) (map.get n name)
read_more m n done e more field sorted held is reads name =
    subst (λ ms. ReadsAt (get_member name ms) (map.get n name)) (put_last done e more sorted)
    (subst (λ o. ReadsAt (get_member name (put (string_bytes e.0) (view e.1) (members_view done))) (map.get o name))
    (sym is) (elim (same_or_not name (string_bytes e.0)) [
      | inl same ↦ subst (λ x. ReadsAt (get_member x (put (string_bytes e.0) (view e.1) (members_view done)))
          (map.get (map.insert m (string_bytes e.0) field) x)) (sym same)
          (subst (λ o. ReadsAt o (map.get (map.insert m (string_bytes e.0) field) (string_bytes e.0)))
          (sym (get_member-put (string_bytes e.0) (view e.1) (members_view done)))
          (subst (λ o. ReadsAt (Some (view e.1)) o)
          (sym (map.get-insert nat_list_cmp_total m (string_bytes e.0) field (string_bytes e.0)
          ∙ ap (λ b. cond b (Some field) (map.get m (string_bytes e.0))) (text_tied (string_bytes e.0)))) reads))
      | inr apart ↦ subst (λ o. ReadsAt o (map.get (map.insert m (string_bytes e.0) field) name))
          (sym (get_member-put_other name (string_bytes e.0) (view e.1) (members_view done) apart))
          (subst (λ o. ReadsAt (get_member name (members_view done)) o) (sym (other apart)) (held name))
    ]))
  where
    other : name ≢ string_bytes e.0 → map.get (map.insert m (string_bytes e.0) field) name ≡ map.get m name
    other apart = map.get-insert nat_list_cmp_total m (string_bytes e.0) field name
        ∙ ap (λ b. cond b (Some field) (map.get m name)) (no_tie name (string_bytes e.0) apart)

-- the value at a key is found
pub found_among : (done : List Entry) (e : Entry) (more : List Entry)
    → IsStrictlySortedBy string_cmp (keys_of (done ++ e ∷ more))
    → get_member (string_bytes e.0) (members_view (done ++ e ∷ more)) ≡ Some (view e.1)
unfolding IsStrictlySortedBy
found_among [] e more h = ap (λ o. match_ordering o (get_member (string_bytes e.0) (members_view more))
    (Some (view e.1)) (get_member (string_bytes e.0) (members_view more)))
    (tied_itself nat_list_cmp_total (string_bytes e.0))
found_among (first ∷ done) e more h =
    let above : slice_cmp nat_cmp (string_bytes e.0) (string_bytes first.0) ≡ Greater =
    nat_list_cmp_total.antisymm (string_bytes e.0) (string_bytes first.0)
    ∙ ap ordering_reverse (below_middle first done e more h.0) in
    rw above (found_among done e more h.1)

-- a member whose value gives no options
pub foreign_field : (d : Data) (all done : List Entry) (e : Entry) (more : List Entry) → d ≡ object (members_view all)
    → done ++ e ∷ more ≡ all → IsStrictlySortedBy string_cmp (keys_of all)
    → ((field : SearchOptionsField) → ¬ (ReadsField (view e.1) field)) → (m : FieldMap) → ¬ (ReadsFields d m)
foreign_field d all done e more is split sorted none m reads =
    let both : object (members_view all) ≡ object reads.members = sym is ∙ reads.is in
    let same : members_view all ≡ reads.members = cc in
    let there = ap (get_member (string_bytes e.0)) (sym same)
    ∙ ap (λ es. get_member (string_bytes e.0) (members_view es)) (sym split)
    ∙ found_among done e more (subst (λ es. IsStrictlySortedBy string_cmp (keys_of es)) (sym split) sorted) in
    by (map.get m (string_bytes e.0)) (subst (λ o. ReadsAt o (map.get m (string_bytes e.0))) there
    (reads.each (string_bytes e.0)))
  where
    by : (o : Option SearchOptionsField) → ReadsAt (Some (view e.1)) o → ⊥
    by None h = h
    by (Some field) h = none field h
