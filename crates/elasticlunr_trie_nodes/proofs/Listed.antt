-- The lists of references, where a node is added.
use Rattle.std.proofs.Common.{◌≡◌, ◌≢◌, inl, inr, ℕ, zero, suc, ◌-◌, Bool, true, false, IsTrue, List, [], ◌∷◌, ◌++◌}
use Rattle.std.proofs.Common.{length, slice_index, ◌<◌, ne_eqb, eqb, Result, Ok, Err, OnOk, OnErr, refl, sym, ap, subst}
use Rattle.std.proofs.Common.{◌∙◌, arith, ◌||◌}
use mathlib.Core.Bool.{false≢true}
use Rattle.std.proofs.lemmas.Bool.{cases_eq, cases_lt, eq-eqb}
use Rattle.std.specs.List.{slice_get, remove}
use Rattle.elasticlunr_trie_nodes.specs.Nodes.{list_of, list_at, has, KeepsLists}
use Rattle.elasticlunr_trie_nodes.specs.declared.nodes.Reference.{Reference}
use Rattle.elasticlunr_trie_nodes.proofs.Places.{get_before, get_behind, get_past}

-- one more empty list is not seen
pub list_pushed : (references : List Reference) (e : Reference) → e.nodes.items ≡ [] → (n : ℕ)
    → list_at (references ++ e ∷ []) n ≡ list_at references n
list_pushed references e none n = elim (cases_lt n (length references)) [
  | inl before ↦ ap list_of (get_before references (e ∷ []) n before)
  | inr behind ↦
      ap list_of (get_behind references (e ∷ []) n (n - length references) (omega arith)) ∙ by (n - length references)
      ∙ sym (ap list_of (get_past references n behind))
]
  where
    by : (j : ℕ) → list_of (slice_get (e ∷ []) j) ≡ []
    by zero = none
    by (suc j) = refl

or_left : (a b : Bool) → a ≡ true → (a || b) ≡ true
or_left true b h = refl
or_left false b h = absurd (false≢true h)

or_right : (a b : Bool) → b ≡ true → (a || b) ≡ true
or_right true b h = refl
or_right false b h = h

pub has_last : (js : List ℕ) (k : ℕ) → IsTrue (has (js ++ k ∷ []) k)
has_last [] k = or_left (eqb k k) false (eq-eqb k k refl)
has_last (j ∷ js) k = or_right (eqb j k) _ (has_last js k)

pub has_more : (js : List ℕ) (k q : ℕ) → IsTrue (has js q) → IsTrue (has (js ++ k ∷ []) q)
has_more [] k q h = absurd (false≢true h)
has_more (j ∷ js) k q h = by (eqb j q) (has js q) (has (js ++ k ∷ []) q) (has_more js k q) h
  where
    by : (a b c : Bool) → (b ≡ true → c ≡ true) → (a || b) ≡ true → (a || c) ≡ true
    by true b c rest e = refl
    by false b c rest e = rest e

module _ {E : Type 0} (old mid new : List Reference) (number k : ℕ) (same : (n : ℕ) → list_at mid n ≡ list_at old n)
    (others : (n : ℕ) → n ≢ number → list_at new n ≡ list_at mid n) where
  pub lists_kept : (result : Result (Unit {0}) E) → OnOk result (list_at new number ≡ list_at mid number ++ k ∷ [])
      → OnErr result (list_at new number ≡ list_at mid number) → KeepsLists old new
  lists_kept result ok err n q h = elim (cases_eq n number) [
    | inr apart ↦ subst (λ js. IsTrue (has js q)) (sym (others n apart ∙ same n)) h
    | inl is ↦ subst (λ x. IsTrue (has (list_at new x) q)) (sym is)
        (here result ok err q (subst (λ x. IsTrue (has (list_at old x) q)) is h))
  ]
    where
      here : (result : Result (Unit {0}) E) → OnOk result (list_at new number ≡ list_at mid number ++ k ∷ [])
          → OnErr result (list_at new number ≡ list_at mid number) → (q : ℕ) → IsTrue (has (list_at old number) q)
          → IsTrue (has (list_at new number) q)
      here (Ok x) ok err q h = subst (λ js. IsTrue (has js q)) (sym ok)
          (has_more _ k q (subst (λ js. IsTrue (has js q)) (sym (same number)) h))
      here (Err e) ok err q h = subst (λ js. IsTrue (has js q)) (sym (err ∙ same number)) h

  pub node_listed : (result : Result (Unit {0}) E) → OnOk result (list_at new number ≡ list_at mid number ++ k ∷ [])
      → OnOk result (IsTrue (has (list_at new number) k))
  node_listed (Ok x) ok = subst (λ js. IsTrue (has js k)) (sym ok) (has_last _ k)
  node_listed (Err e) ok = tt

-- another node stays in the list
pub has_removed : (js : List ℕ) (i q : ℕ) → i < length js → q ≢ slice_index js i → IsTrue (has js q)
    → IsTrue (has (remove js i) q)
has_removed [] i q lt apart h = absurd (omega arith)
has_removed (j ∷ js) zero q lt apart h = by (eqb j q) (has js q) (ne_eqb j q (λ e. apart (sym e))) h
  where
    by : (a b : Bool) → a ≡ false → (a || b) ≡ true → b ≡ true
    by true b differs e = absurd (false≢true (sym differs))
    by false b differs e = e
has_removed (j ∷ js) (suc i) q lt apart h = by (eqb j q) (has js q) (has (remove js i) q)
    (has_removed js i q (omega arith) apart) h
  where
    by : (a b c : Bool) → (b ≡ true → c ≡ true) → (a || b) ≡ true → (a || c) ≡ true
    by true b c rest e = refl
    by false b c rest e = rest e
