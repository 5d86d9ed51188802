-- That a word has exactly one stem, as a fact with at most one proof.
use mathlib.Core.HLevel.{Σ_prop_path, Π_prop}
use Rattle.std.proofs.Common.{◌≡◌, ℕ, List}
use Rattle.std.proofs.Props.{props}
use Rattle.std.proofs.Math.Logic.{∥∥₁_elim}
use Rattle.elasticlunr_text.specs.Text.{Text}
use Rattle.elasticlunr_text.specs.Stems.{Stem}

-- the text is a stem of the word, and the only one
abbrev pub IsOnlyStem : Text → Text → Type 0
IsOnlyStem word stem = ∥ Stem word stem ∥₁ × ((other : Text) → Stem word other → other ≡ stem)

-- each word has exactly one stem
abbrev pub HasStems : Type 0
HasStems = (word : Text) → ((stem : Text) × IsOnlyStem word stem)

texts_are_a_set : (s t : List ℕ) → IsProp (s ≡ t)
texts_are_a_set = Prim.hlevel props

only-prop : (word stem : Text) → IsProp (IsOnlyStem word stem)
only-prop word stem = Prim.hlevel props

pub HasStems-prop : IsProp HasStems
HasStems-prop = Π_prop (λ word s t. Σ_prop_path (only-prop word)
    (∥∥₁_elim s.1.0 (texts_are_a_set s.0 t.0) (λ h. t.1.1 s.0 h)))
