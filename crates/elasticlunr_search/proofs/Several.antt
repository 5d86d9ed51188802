-- What is found in several fields.
use Rattle.std.proofs.Common.{◌≡◌, ◌↔◌, ◌<◌, ℕ, zero, suc, Bool, true, false, ◌||◌, true≢false, List, [], ◌∷◌, length}
use Rattle.std.proofs.Common.{get_or, Some, arith, refl, sym, ap, subst, ◌∙◌}
use Rattle.std.specs.Prelude.{Contains}
use Rattle.std.specs.List.{AllZip, list_any, slice_get}
use Rattle.std.specs.List.Sorted.{IsStrictlySortedBy}
use Rattle.elasticlunr_text.specs.Text.{Text, Bytes, text_cmp, is_listed}
use Rattle.elasticlunr_trie.specs.Table.{Table}
use Rattle.elasticlunr.specs.Found.{AreExactly}
use Rattle.elasticlunr_search.specs.Tries.{FindsInTrie, FindsInTries}
use Rattle.elasticlunr_search.specs.Words.{AreNumbersOf}
use Rattle.elasticlunr_search.specs.declared.words.Join.{Join}
use Rattle.elasticlunr_search.proofs.FieldTries.{each_weaker}
use Rattle.elasticlunr_search.proofs.Joining.{AreJoined}
use Rattle.elasticlunr_search.proofs.Those.{any_tells, are_those, listed}

-- where each list has those that are found in the trie of its field
pub found_in_tries : (R : Bytes → List Bytes → Type 0) (reads : ℕ → Bytes → List Text → Type 0) (fields : List Bytes)
    (tables : List Table) (join : Join) (query : Bytes)
    → ((name : Bytes) (part : List Bytes) → R name part → FindsInTrie reads fields tables join name query part)
    → (names found : List Bytes) → AreJoined R names found → IsStrictlySortedBy text_cmp found
    → FindsInTries reads fields tables join names query found
found_in_tries R reads fields tables join query in_trie names found joined order =
    let in_part = λ (r : Bytes). any_tells (is_listed r) joined.parts in (
      joined.parts,
      each_weaker R (λ name part. FindsInTrie reads fields tables join name query part) in_trie names joined.parts
          joined.each,
      are_those _ (λ r. list_any (is_listed r) joined.parts)
          (λ r. (
            λ e. let w = (in_part r).0 e in (w.0, w.1, (listed r w.0).1 w.2),
            λ h. (in_part r).1
                (h.0, h.1, (listed r h.0).0 h.2),
          )) found order joined.in_one,
    )

or_true : (b : Bool) → (b || true) ≡ true
or_true true = refl
or_true false = refl

pub contains_cases : {A : Type 0} (x y : A) (xs : List A) (Q : Type 0) → (x ≡ y → Q) → (Contains xs y → Q)
    → Contains (x ∷ xs) y → Q
contains_cases x y xs Q here there c = by c.0 c.1 c.2 where
  by : (k : ℕ) → k < suc (length xs) → get_or (x ∷ xs) k y ≡ y → Q
  by zero lt is = here is
  by (suc k) lt is = there (k, omega arith, is)

-- where each list has those that are found in the field of a number
module _ (R : Bytes → List Bytes → Type 0) (fields : List Bytes) (IsFound : ℕ → Bytes → Type 0)
    (of_field : (name : Bytes) (part : List Bytes) → R name part → (i : ℕ) × (slice_get fields i ≡ Some name)
    × AreExactly (IsFound i) part) where
  record AreNumbered (names : List Bytes) (parts : List (List Bytes)) : Type 0 where
    numbers : List ℕ
    are : AreNumbersOf fields names numbers
    tells : (r : Bytes) → (list_any (is_listed r) parts ≡ true) ↔ ((i : ℕ) × Contains numbers i × IsFound i r)

  numbered : (names : List Bytes) (parts : List (List Bytes)) → AllZip R names parts → AreNumbered names parts
  numbered [] [] all = record {
    numbers = [];
    are = tt;
    tells =
        λ r. (λ e. absurd (true≢false (sym e)), λ h. absurd (omega (arith, h.1.1)));
  }
  numbered [] (part ∷ parts) all = absurd all
  numbered (name ∷ names) [] all = absurd all
  numbered (name ∷ names) (part ∷ parts) all =
      let first = of_field name part all.0 in
      let more = numbered names parts all.1 in
      record {
        numbers = first.0 ∷ more.numbers;
        are = (first.1, more.are);
        tells = λ r. (
          λ e. elim (is_listed r part) as (λ b. is_listed r part ≡ b → (b || list_any (is_listed r) parts) ≡ true
              → (i : ℕ) × Contains (first.0 ∷ more.numbers) i × IsFound i r) [
                | true ↦ λ is h. (first.0, (0, omega arith, refl), (first.2.exact r).0 ((listed r part).1 is))
                | false ↦ λ is h. let w = (more.tells r).0 h in (w.0, (suc w.1.0, omega (arith, w.1.1), w.1.2), w.2)
              ] refl e,
          λ h. contains_cases first.0 h.0 more.numbers ((is_listed r part || list_any (is_listed r) parts) ≡ true)
              (λ is. ap (λ b. b || list_any (is_listed r) parts)
              ((listed r part).0 ((first.2.exact r).1 (subst (λ i. IsFound i r) (sym is) h.2))))
              (λ c. ap (λ b. is_listed r part || b) ((more.tells r).1 (h.0, c, h.2)) ∙ or_true (is_listed r part)) h.1,
        );
      }

  pub are_found : (names found : List Bytes) → AreJoined R names found → IsStrictlySortedBy text_cmp found
      → (numbers : List ℕ) × AreNumbersOf fields names numbers
      × AreExactly (λ r. (i : ℕ) × Contains numbers i × IsFound i r) found
  are_found names found joined order =
      let of_names = numbered names joined.parts joined.each in (
        of_names.numbers,
        of_names.are,
        are_those _ (λ r. list_any (is_listed r) joined.parts) of_names.tells found order
            joined.in_one,
      )
