-- The parts of an index, and what is told of its pieces.
use Rattle.std.proofs.Common.{◌≡◌, Option, None, Some, Result, Err, refl, sym, subst}
use Rattle.std.specs.Prelude.{IfErr, IsSomeAnd}
use Rattle.elasticlunr_text.specs.Text.{Bytes, bytes_of}
use Rattle.elasticlunr.specs.History.{Commands}
use Rattle.elasticlunr.specs.Index.{choices_of, fields_of, plan_of, ForParts, StandsFor}
use Rattle.elasticlunr.specs.Standing.{Holds}
use Rattle.elasticlunr.specs.declared.index.Index.{Index}
use Rattle.elasticlunr_flat.specs.Flat as flat
use Rattle.elasticlunr_flat.specs.declared.fault.FlatError.{FlatError}
use Rattle.elasticlunr_flat.specs.declared.fault.FlatError.TheVariants.{Malformed, Memory}
use Rattle.elasticlunr_in_pieces.specs.declared.all.InPieces.{InPieces}
use Rattle.elasticlunr_print.specs.declared.parts.Parts.{Parts}
use Rattle.elasticlunr_c_calls.specs.Folders.{ArePartsAfter}
use Rattle.elasticlunr_c_calls.specs.Pieces.{IsCutInto, IsFolderOf, IsFormOfCutting, IsTold}
use Rattle.elasticlunr_c_calls.specs.declared.pieces.PiecesOutcome.{PiecesOutcome}
use Rattle.elasticlunr_c_calls.specs.declared.pieces.PiecesOutcome.TheVariants.{Made, Refused, TooLarge}

some_and : {A : Type 0} (o : Option A) (P : A → Type 0) (Q : Type 0) → IsSomeAnd o P
    → ((x : A) → o ≡ Some x → P x → Q) → Q
some_and None P Q h f = absurd h
some_and (Some x) P Q h f = f x refl h

module _ {L P X Y : Type 0} {O : X → Type 0} {F : Y → Type 0} {p : _} {g : _} where
  -- the parts of an index are those after the commands that it represents
  pub parts_after : (name_of : L → Bytes) (name_text : (v : X) × O v → Bytes) (index : Index L P X Y O F p g)
      (parts : Parts) (commands : Commands) → StandsFor name_of name_text index commands
      → ForParts index (λ tables kept. (parts.tries.now ≡ tables) × (parts.store.now ≡ kept))
      → bytes_of parts.fields.now ≡ fields_of index
      → parts.ref_field.now ≡ (choices_of index).reference_field
      → parts.language.now ≡ (plan_of name_of name_text index).language
      → bytes_of parts.stages.now ≡ (plan_of name_of name_text index).stages
      → ArePartsAfter (plan_of name_of name_text index) commands parts
  parts_after name_of name_text index parts commands stands are fields reference language stages =
      let plan = plan_of name_of name_text index in
      some_and index.contents (λ contents. Holds plan commands contents.tries.items contents.store)
      (ArePartsAfter plan commands parts) stands
      (λ contents there holds.
      let same = are contents.tries.items contents.store
      (subst (λ o. IsSomeAnd o (λ c. (c.tries.items ≡ contents.tries.items) × (c.store ≡ contents.store)))
      (sym there) (refl, refl)) in
      let here : Holds plan commands parts.tries.now parts.store.now =
      subst (λ ts. Holds plan commands ts parts.store.now) (sym same.0)
      (subst (λ kept. Holds plan commands contents.tries.items kept) (sym same.1) holds) in
      record {
        its_plan = λ i. record {
          fields = fields i;
          reference_field = reference i;
          save = here.store.save i;
          language = language i;
          stages = stages i;
        };
        holds = here;
      })

-- what is told of a head and pieces answers the documents
pub told_of : (bytes : Bytes) (cutting : flat.Cutting) (made : InPieces) (outcome : PiecesOutcome) (answer : Bytes)
    → IsFormOfCutting bytes cutting → IsFolderOf cutting made → IsTold made outcome answer
    → IsCutInto bytes outcome answer
told_of bytes cutting made Made answer form folder told = (cutting, form, (made, folder, told))
told_of bytes cutting made TooLarge answer form folder told = (cutting, form, (made, folder, told))
told_of bytes cutting made (Refused refusal) answer form folder told = absurd told

-- what fails only for want of memory isn't malformed
pub only_memory : {T : Type 0} (r : Result T FlatError) → IfErr r (λ fault. fault ≡ Memory) → r ≡ Err Malformed → ⊥
only_memory r memory is = let e : Malformed ≡ Memory = subst (λ s. IfErr s (λ fault. fault ≡ Memory)) is memory in cc
