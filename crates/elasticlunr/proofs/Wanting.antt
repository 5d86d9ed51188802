-- Calls on an index that works fail only where memory is refused.
use Rattle.std.proofs.Common.{◌≡◌, ◌↔◌, ◌⊎◌, ◌<◌, ◌≤◌, ℕ, List, length, Bool, true, false, Option, None, Some, Result}
use Rattle.std.proofs.Common.{Ok, Err, IsNone, IsSomeAnd, inl, inr, true≢false, arith, refl, sym, ap, ◌∙◌}
use Rattle.std.specs.Prelude.{IfErr, IsErrAnd}
use Rattle.elasticlunr_text.specs.Text.{Text, Bytes}
use Rattle.elasticlunr_text.specs.IndexError.{IndexError}
use Rattle.elasticlunr_text.specs.IndexError.TheVariants.{DuplicateField, Failed, Memory, TooManyValues}
use Rattle.elasticlunr_commands.specs.History.{Commands}
use Rattle.elasticlunr_commands.specs.Standing.{Plan}
use Rattle.elasticlunr.specs.After.{IsAfter}
use Rattle.elasticlunr.specs.Calls.{Call}
use Rattle.elasticlunr.specs.Index.{fields_of, StandsFor, IsFailed}
use Rattle.elasticlunr.specs.declared.index.Index.{Index}

-- what is there has not failed
there_works : {X : Type 0} (there : Option X) (Q : X → Type 0) → IsSomeAnd there Q → ¬ IsNone there
there_works None Q some none = absurd some
there_works (Some x) Q some none = true≢false none

-- an error that is passed on, and is out of memory
pub memory_passed : {T : Type 0} (r : Result T IndexError) (e : IndexError) → IsErrAnd r (λ x. x ≡ e) → e ≡ Memory
    → IfErr r (λ x. x ≡ Memory)
memory_passed (Ok x) e is memory = tt
memory_passed (Err x) e is memory = is ∙ memory

-- names that differ
pub new_wants_memory : {T : Type 0} (r : Result T IndexError) (e : IndexError) → r ≡ Err e → (differ : Bool) → differ
    ≡ true → (r ≡ Err DuplicateField → differ ≡ false) → (e ≡ DuplicateField) ⊎ (e ≡ Memory) → e ≡ Memory
new_wants_memory r e is differ apart twice one =
    elim one [ inl same ↦ absurd (true≢false (sym apart ∙ twice (is ∙ ap Err same))) | inr memory ↦ memory ]

-- In each lemma `failed` says that the index had failed.
module _ {T : Type 0} (r : Result T IndexError) (failed : Type 0) (works : ¬ failed) (refuses : (r ≡ Err Failed)
    ↔ failed) where
  -- a call on an index that works
  pub working_wants_memory : (e : IndexError) → r ≡ Err e → (e ≡ Failed) ⊎ (e ≡ Memory) → e ≡ Memory
  working_wants_memory e is one = elim one [
    | inl fails ↦ absurd (works (refuses.0 (is ∙ ap Err fails)))
    | inr memory ↦
        memory
  ]

  -- a document of no more values than there are fields
  pub adding_wants_memory : (e : IndexError) → r ≡ Err e → (fields values : ℕ) → values ≤ fields
      → (r ≡ Err TooManyValues) ↔ ((¬ failed) × (fields < values)) → (e ≡ Failed)
      ⊎ ((e ≡ TooManyValues) ⊎ (e ≡ Memory)) → e ≡ Memory
  adding_wants_memory e is fields values fit many one = elim one [
    | inl fails ↦ absurd (works (refuses.0 (is ∙ ap Err fails)))
    | inr other ↦ elim other [
      | inl over ↦ (let more : fields < values = (many.0 (is ∙ ap Err over)).1 in absurd
          (omega arith))
      | inr memory ↦ memory
    ]
  ]

-- what is printed of an index that works
pub printing_wants_memory : {T : Type 0} (r : Result T IndexError) (failed : Type 0) → ¬ failed → (r ≡ Err Failed)
    ↔ failed → IfErr r (λ e. (e ≡ Failed) ⊎ (e ≡ Memory)) → IfErr r (λ e. e ≡ Memory)
printing_wants_memory (Ok x) failed works refuses one = tt
printing_wants_memory (Err e) failed works refuses one = working_wants_memory (Err e) failed works refuses e refl one

module _ {L P X Y : Type 0} {O : X → Type 0} {F : Y → Type 0} {p : _} {g : _} (name_of : L → Bytes) (name_text : (v : X)
    × O v → Bytes) where
  -- an index that stands for commands has not failed
  pub standing_works : (index : Index L P X Y O F p g) (commands : Commands)
      → StandsFor name_of name_text index commands → ¬ IsFailed index
  standing_works index commands stands = there_works index.contents _ stands

  module _ (tokens_of : L → Text → List Text) (leaves : (v : X) × O v → Text → Option Text) (leaves_of : L → Text
      → Option Text → Type 0) (language : L) (plan : Plan) (calls : List Call)
      (index : Index L P X Y O F p g) (was : IsAfter name_of name_text tokens_of leaves leaves_of language plan calls
      index) where
    -- nor has one that was given calls
    pub after_works : ¬ IsFailed index
    after_works = there_works index.contents _ was.stands

    -- which has as many fields as its plan
    pub after_fits : (values : ℕ) → values ≤ length plan.fields → values ≤ length (fields_of index)
    after_fits values fit = let same : fields_of index ≡ plan.fields = ap (λ pl. pl.fields) was.prints in rw same fit
