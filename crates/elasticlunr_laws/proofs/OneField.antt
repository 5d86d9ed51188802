-- What is found where one field alone is asked for.
use Rattle.std.proofs.Common.{◌≡◌, ◌<◌, ℕ, zero, suc, List, [], ◌∷◌, length, lit<, arith, refl, get_or, subst, bytes_eq}
use Rattle.std.proofs.Common.{Bool, true, false, ◌||◌, ap, sym, ◌∙◌, true≢false}
use Rattle.std.proofs.lemmas.Slice.Eq.{bytes_eq-Decides}
use Rattle.std.specs.Prelude.{Contains}
use Rattle.elasticlunr.specs.Calls.{Call}
use Rattle.elasticlunr.specs.Fields.{has_name}
use Rattle.elasticlunr.specs.Found.{AreExactly}
use Rattle.elasticlunr.specs.Text.{Text, Bytes}
use Rattle.elasticlunr_search.specs.AfterCalls.{FindsAfter, FindsInFieldsAfter, IsFoundAfter}
use Rattle.elasticlunr_search.specs.Words.{AreNumbersOf}
use Rattle.elasticlunr_search.specs.declared.words.Join.{Join}
use Rattle.elasticlunr_laws.proofs.ByTexts.{those_as}

-- the only one of a list
only : {X : Type 0} (x y : X) → Contains (x ∷ []) y → x ≡ y
only x y has = at has.0 has.1 has.2 where
  at : (k : ℕ) → k < 1 → get_or (x ∷ []) k y ≡ y → x ≡ y
  at zero inside is = is
  at (suc k) inside is = absurd (omega arith)

-- an index of one field has the field of that name
pub has_only : (field name : Bytes) → Contains (field ∷ []) name → has_name name (field ∷ []) ≡ true
has_only field name has = ap (λ b. b || false) ((bytes_eq-Decides field name).1 (only field name has))

module _ (reads : ℕ → Bytes → List Text → Type 0) (fields : List Bytes) (reference_field : Bytes) (calls : List Call)
    (join : Join) (field query : Bytes) (found : List Bytes) where
  of_number : (numbers : List ℕ) → AreNumbersOf fields (field ∷ []) numbers → AreExactly (λ r. (i : ℕ)
      × Contains numbers i × IsFoundAfter reads fields reference_field calls join i query r) found
      → FindsAfter reads fields reference_field calls join field query found
  of_number [] are exact = absurd are
  of_number (i ∷ j ∷ numbers) are exact = absurd are.1
  of_number (i ∷ []) are exact = (
    i,
    are.0,
    those_as _ _ found (λ r. (
      λ has. subst (λ k. IsFoundAfter reads fields reference_field calls join k query r) (sym (only i has.0 has.1))
          has.2,
      λ is. (i, (0, lit< tt, refl), is),
    )) exact,
  )

  -- what is found in one or more of the fields, of which there is one, is found in that
  pub found_in_one : FindsInFieldsAfter reads fields reference_field calls join (field ∷ []) query found
      → FindsAfter reads fields reference_field calls join field query found
  found_in_one finds = of_number finds.0 finds.1 finds.2
