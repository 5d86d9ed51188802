-- The list of a reference, where a node is taken out of it.
use Rattle.std.proofs.Common.{◌≡◌, ◌≢◌, ℕ, zero, suc, ◌<◌, Bool, true, false, ◌||◌, IsTrue, IsFalse, List, [], ◌∷◌}
use Rattle.std.proofs.Common.{length, slice_index, ne_eqb, eqb, refl, sym, subst, ◌∙◌, arith}
use mathlib.Core.Bool.{false≢true}
use Rattle.std.proofs.lemmas.Bool.{eq-eqb}
use Rattle.std.specs.List.{remove}
use Rattle.elasticlunr_trie_nodes.specs.Nodes.{has, LosesOne}

-- a list of others has no k
pub has_none : (js : List ℕ) (k : ℕ) → ((q : ℕ) → q < length js → slice_index js q ≢ k) → IsFalse (has js k)
has_none [] k others = refl
has_none (j ∷ js) k others = by (eqb j k) (has js k) (ne_eqb j k (others 0 (omega arith)))
    (has_none js k (λ q lt. others (suc q) (omega arith)))
  where
    by : (a b : Bool) → a ≡ false → b ≡ false → (a || b) ≡ false
    by true b e f = e
    by false b e f = f

-- a list has what stands in it
has_at : (js : List ℕ) (i : ℕ) → i < length js → IsTrue (has js (slice_index js i))
has_at [] i lt = absurd (omega arith)
has_at (j ∷ js) zero lt = by (eqb j j) (has js j) (eq-eqb j j refl)
  where
    by : (a b : Bool) → a ≡ true → (a || b) ≡ true
    by true b e = refl
    by false b e = absurd (false≢true e)
has_at (j ∷ js) (suc i) lt = by (eqb j (slice_index js i)) (has js (slice_index js i)) (has_at js i (omega arith))
  where
    by : (a b : Bool) → b ≡ true → (a || b) ≡ true
    by true b e = refl
    by false b e = e

-- a list without k loses none
pub loses_none : (js : List ℕ) (k : ℕ) → IsFalse (has js k) → LosesOne js js k
loses_none js k e = record { one = λ there. absurd (false≢true (sym e ∙ there)); none = λ _. refl }

-- a list loses the k at the place i
pub loses_at : (js : List ℕ) (k i : ℕ) → i < length js → slice_index js i ≡ k → LosesOne js (remove js i) k
loses_at js k i lt is = record {
  one = λ there. (i, lt, (is, refl));
  none =
      λ e. absurd (false≢true (sym e ∙ subst (λ q. IsTrue (has js q)) is (has_at js i lt)));
}
