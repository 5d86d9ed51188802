-- The names of fields that are asked for, and the keys of their options.
use Rattle.std.proofs.Common.{◌≡◌, ◌↔◌, Bool, true, false, List, Option, Some, IfSome, is_some}
use Rattle.std.proofs.Common.{[], ◌∷◌, ◌++◌, ◌||◌, cond, refl, sym, ap, subst, ◌∙◌}
use Rattle.std.specs.Prelude.{Contains, All}
use Rattle.std.specs.Cmp.{eq_by_cmp_equiv}
use Rattle.std.specs.FinMap.{FinMap, contains_key-keys, get, get-insert, insert, keys}
use Rattle.std.specs.List.{filter, list_any}
use Rattle.std.specs.Ordering.{eq_by_cmp}
use Rattle.std.specs.Str.{bytes_eq}
use Rattle.std.proofs.lemmas.Cmp.{nat_list_cmp_total}
use Rattle.std.proofs.lemmas.List.Elements.{All-contains, All-contains_itself, All-filter, All-weaker}
use Rattle.std.proofs.lemmas.List.Folds.{list_any-append}
use Rattle.std.proofs.lemmas.Map.Views.{Contains-from_any, list_any-from_Contains}
use Rattle.std.proofs.lemmas.Slice.Eq.{bytes_eq-Decides}
use Rattle.elasticlunr_text.specs.Text.{Bytes, text_cmp}
use Rattle.elasticlunr.specs.Fields.{has_name}
use Rattle.elasticlunr_json.proofs.Seen.{tie}
use Rattle.elasticlunr_json.proofs.Texts.{text_tie}
use Rattle.elasticlunr_search.proofs.Those.{any_tells}

-- a name stands in a list exactly if the test says so
pub named : (name : Bytes) (names : List Bytes) → Contains names name ↔ (has_name name names ≡ true)
named name names = (
  λ c. (any_tells (λ other. bytes_eq other name) names).1 (name, c, (bytes_eq-Decides name name).1 refl),
  λ e. let one = (any_tells (λ other. bytes_eq other name) names).0 e in
      subst (Contains names) ((bytes_eq-Decides one.0 name).0 one.2) one.1,
)

module _ {X : Type 0} (m : FinMap text_cmp X) (names : List Bytes)
    (is : (name : Bytes) → is_some (get m name) ≡ has_name name names) where
  same_test : (name : Bytes) → has_name name names ≡ list_any (eq_by_cmp text_cmp name) (keys m)
  same_test name = sym (is name) ∙ contains_key-keys m name

  -- the keys of a map that has a value exactly at these names are these names
  pub same_names : (name : Bytes) → Contains (keys m) name ↔ Contains names name
  same_names name = (
    λ c. (named name names).1 (same_test name
        ∙ list_any-from_Contains (eq_by_cmp_equiv nat_list_cmp_total) name (keys m) c),
    λ c. Contains-from_any text_tie name (keys m) (sym (same_test name) ∙ (named name names).0 c),
  )

  pub all_names : (P : Bytes → Type 0) → All P (keys m) → All P names
  all_names P h = All-weaker (Contains names) P (λ name c. All-contains P (keys m) name h ((same_names name).1 c)) names
      (All-contains_itself names)

-- what is left by a test was there
pub was_there : (test : Bytes → Bool) (names : List Bytes) (name : Bytes) → Contains (filter test names) name
    → Contains names name
was_there test names name c = All-contains (Contains names) (filter test names) name
    (All-filter test (Contains names) names (All-contains_itself names)) c

joined : {X : Type 0} (a b : Bool) (x : X) (o : Option X) (Q : X → Type 0) → (b ≡ true → Q x)
    → (is_some o ≡ a) × IfSome o Q → (is_some (cond b (Some x) o) ≡ (a || (b || false))) × IfSome (cond b (Some x) o) Q
joined true true x o Q h e = (refl, h refl)
joined false true x o Q h e = (refl, h refl)
joined true false x o Q h e = e
joined false false x o Q h e = e

-- a value at one more name
pub one_more : {X : Type 0} (m n : FinMap text_cmp X) (P : Bytes → X → Type 0) (names : List Bytes) (name : Bytes)
    (x : X) → n ≡ insert m name x → P name x
    → ((q : Bytes) → (is_some (get m q) ≡ has_name q names) × IfSome (get m q) (P q))
    → (q : Bytes) → (is_some (get n q) ≡ has_name q (names ++ name ∷ [])) × IfSome (get n q) (P q)
one_more m n P names name x put here before q =
    let found : get n q ≡ cond (bytes_eq name q) (Some x) (get m q) =
    ap (λ k. get k q) put ∙ get-insert nat_list_cmp_total m name x q ∙ ap (λ b. cond b (Some x) (get m q)) (tie q name) in
    let both = joined (has_name q names) (bytes_eq name q) x (get m q) (P q)
    (λ t. subst (λ k. P k x) ((bytes_eq-Decides name q).0 t) here) (before q) in (
      ap is_some found ∙ both.0 ∙ sym (list_any-append (λ other. bytes_eq other q) names (name ∷ [])),
      subst (λ o. IfSome o (P q)) (sym found) both.1,
    )
