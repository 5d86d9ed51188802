use Rattle.std.proofs.Common.{◌≡◌, ◌-◌, ◌∷◌, [], ℕ, List, Bool, true, false, IfOk, IfSome, None, length, take}
use Rattle.std.proofs.Common.{if◌then◌else◌, ap, subst, ◌∙◌}
use Rattle.elasticlunr_text.specs.Text.{Bytes}
use Rattle.elasticlunr_job_format.specs.ObjectsTold.{options_told}
use Rattle.elasticlunr_json_place.specs.Members.{item, under, move_told, path_told, IsPlaceOf}
use Rattle.elasticlunr_json_place.specs.declared.member.Step.{Step}
use Rattle.elasticlunr_json_place.specs.declared.member.Step.TheVariants as step
use Rattle.elasticlunr_input.specs.FaultPlaces.{is_of_member, object_fault_key}
use Rattle.elasticlunr_input.proofs.documents.object_fault_place.Goals as goal

-- the steps in an array
in_array : (of_member : Bool) (first key : Step) (at : ℕ) (name : Bytes) (steps : List Step) → steps
    ≡ (if of_member then first ∷ key ∷ [] else take (length (first ∷ key ∷ []) - 1) (first ∷ key ∷ []))
    → move_told first ≡ item at → move_told key ≡ under name → path_told steps ≡ item at
    ∷ (if of_member then under name ∷ [] else [])
in_array true first key at name steps is here named = ap path_told is ∙ ap (λ move. move ∷ move_told key ∷ []) here
    ∙ ap (λ move. item at ∷ move ∷ []) named
in_array false first key at name steps is here named = ap path_told is ∙ ap (λ move. move ∷ []) here

pub returns : goal.returns
returns c =
    let options = options_told c.args.options.now in
    subst (λ moves. IfOk c.place_of.result (λ place. IfSome place (IsPlaceOf None moves c.args.text.now)))
    (in_array (is_of_member c.args.problem) (step.Item c.saturating_sub.result) (step.Key c.object_fault_key.result)
    (c.args.number - 1) (object_fault_key options c.args.problem) c.path_of.result.now c.path_of.ensures
    (ap item c.saturating_sub.ensures) (ap under c.object_fault_key.ensures)) c.place_of.ensures
