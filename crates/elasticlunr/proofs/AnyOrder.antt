-- Additions of the same documents leave the same documents current.
use Rattle.std.proofs.Common.{◌≡◌, ◌↔◌, ◌<◌, ℕ, zero, suc, List, [], ◌∷◌, length, arith, map, Bool, true, false, cond}
use Rattle.std.proofs.Common.{not, ◌&&◌, ◌||◌, Option, None, Some, bytes_eq, true≢false, refl, sym, ap, ◌∙◌}
use Rattle.std.specs.Prelude.{Contains, slice_index_or}
use Rattle.std.proofs.lemmas.Slice.Eq.{bytes_eq-Decides}
use Rattle.elasticlunr_text.specs.Text.{Bytes}
use Rattle.elasticlunr.specs.Current.{values_after, current, additions, HaveOwnReferences}
use Rattle.elasticlunr_commands.specs.Fields.{has_name, all_differ}
use Rattle.elasticlunr_commands.proofs.Adding.{same}
use Rattle.elasticlunr_commands.proofs.Naming.{turned}

abbrev Documents : Type 0
Documents = List (Bytes × List Bytes)

abbrev references : Documents → List Bytes
references documents = map (λ document. document.0) documents

-- what is added for no document stays
left_alone : (r : Bytes) (documents : Documents) (before : Option (List Bytes)) → has_name r (references documents)
    ≡ false → values_after before (additions documents) r ≡ before
left_alone r [] before absent = refl
left_alone r (d ∷ documents) before absent = by_test (bytes_eq d.0 r) refl absent (left_alone r documents before) where
  by_test : (b : Bool) → bytes_eq d.0 r ≡ b → (b || has_name r (references documents)) ≡ false
      → (has_name r (references documents) ≡ false → values_after before (additions documents) r ≡ before)
      → values_after (cond (bytes_eq r d.0) (Some d.1) before) (additions documents) r ≡ before
  by_test true e h rest = absurd (true≢false h)
  by_test false e h rest = ap (λ b. values_after (cond b (Some d.1) before) (additions documents) r)
      (turned d.0 r false e) ∙ rest h

-- a reference that stands there stands there with values
with_values : (r : Bytes) (documents : Documents) → has_name r (references documents) ≡ true → (values : List Bytes)
    × Contains documents (r, values)
with_values r [] there = absurd (true≢false (sym there))
with_values r (d ∷ documents) there = by_test (bytes_eq d.0 r) refl there (with_values r documents) where
  by_test : (b : Bool) → bytes_eq d.0 r ≡ b → (b || has_name r (references documents)) ≡ true
      → (has_name r (references documents) ≡ true → (values : List Bytes) × Contains documents (r, values))
      → (values : List Bytes) × Contains (d ∷ documents) (r, values)
  by_test true e h rest = (d.1, (0, omega arith, λ i. (same d.0 r e i, d.1)))
  by_test false e h rest = let later = rest h in (later.0, (suc later.1.0, omega (arith, later.1.1), later.1.2))

at_reference : (r : Bytes) (values : List Bytes) (documents : Documents) (k : ℕ) → k < length documents
    → slice_index_or documents k (r, values) ≡ (r, values) → has_name r (references documents) ≡ true
at_reference r values [] k low is = absurd (omega (arith, low))
at_reference r values (d ∷ documents) zero low is = ap (λ b. b || has_name r (references documents))
    ((bytes_eq-Decides d.0 r).1 (ap (λ x. x.0) is))
at_reference r values (d ∷ documents) (suc k) low is = or_true (bytes_eq d.0 r) _
    (at_reference r values documents k (omega (arith, low)) is) where
      or_true : (a b : Bool) → b ≡ true → (a || b) ≡ true
      or_true true b h = refl
      or_true false b h = h

-- the values of a document are current
its_values : (r : Bytes) (values : List Bytes) (documents : Documents) (before : Option (List Bytes))
    → all_differ (references documents) ≡ true
    → (k : ℕ) → k < length documents → slice_index_or documents k (r, values) ≡ (r, values)
    → values_after before (additions documents) r ≡ Some values
its_values r values [] before differ k low is = absurd (omega (arith, low))
its_values r values (d ∷ documents) before differ (suc k) low is = its_values r values documents
    (cond (bytes_eq r d.0) (Some d.1) before) (rest (has_name d.0 (references documents)) _ differ) k
    (omega (arith, low)) is where
      rest : (a b : Bool) → (not a && b) ≡ true → b ≡ true
      rest true b h = absurd (true≢false (sym h))
      rest false b h = h
its_values r values (d ∷ documents) before differ zero low is =
    let own : d.0 ≡ r = ap (λ x. x.0) is in
    let absent : has_name r (references documents) ≡ false = ap (λ q. has_name q (references documents)) (sym own)
    ∙ first (has_name d.0 (references documents)) _ differ in
    left_alone r documents (cond (bytes_eq r d.0) (Some d.1) before) absent
    ∙ ap (λ b. cond b (Some d.1) before) ((bytes_eq-Decides r d.0).1 (sym own)) ∙ ap (λ x. Some x.1) is where
      first : (a b : Bool) → (not a && b) ≡ true → a ≡ false
      first true b h = absurd (true≢false (sym h))
      first false b h = refl

pub same_current : (r : Bytes) (documents others : Documents) → HaveOwnReferences documents → HaveOwnReferences others
    → ((document : Bytes × List Bytes) → Contains documents document ↔ Contains others document)
    → current (additions documents) r ≡ current (additions others) r
same_current r documents others differ also both = by_tests (has_name r (references documents))
    (has_name r (references others)) refl refl where
      values_at : (these : Documents) → HaveOwnReferences these → (values : List Bytes) → Contains these (r, values)
          → current (additions these) r ≡ Some values
      values_at these own values c = its_values r values these None own c.0 c.1 c.2

      named : (these : Documents) (values : List Bytes) → Contains these (r, values) → has_name r (references these) ≡ true
      named these values c = at_reference r values these c.0 c.1 c.2

      by_tests : (a b : Bool) → has_name r (references documents) ≡ a → has_name r (references others) ≡ b
          → current (additions documents) r ≡ current (additions others) r
      by_tests true b ea eb = let there = with_values r documents ea in values_at documents differ there.0 there.1
          ∙ sym (values_at others also there.0 ((both (r, there.0)).0 there.1))
      by_tests false true ea eb = let there = with_values r others eb in absurd
          (true≢false (sym (named documents there.0 ((both (r, there.0)).1 there.1)) ∙ ea))
      by_tests false false ea eb = left_alone r documents None ea ∙ sym (left_alone r others None eb)
