use Rattle.std.proofs.Common.{◌≡◌, ◌-◌, ◌∷◌, [], List, Bool, true, false, IfOk, IfSome, None, length, take}
use Rattle.std.proofs.Common.{if◌then◌else◌, ap, subst, ◌∙◌}
use Rattle.elasticlunr_text.specs.Text.{Bytes}
use Rattle.elasticlunr_job_format.specs.ObjectsTold.{options_told}
use Rattle.elasticlunr_json_place.specs.Members.{under, move_told, path_told, IsPlaceOf}
use Rattle.elasticlunr_json_place.specs.declared.member.Step.{Step}
use Rattle.elasticlunr_json_place.specs.declared.member.Step.TheVariants as step
use Rattle.elasticlunr_input.specs.FaultPlaces.{is_of_member, object_fault_key}
use Rattle.elasticlunr_input.proofs.lines.line_place.Goals as goal

-- the steps in a line
in_line : (of_member : Bool) (key : Step) (name : Bytes) (steps : List Step) → steps
    ≡ (if of_member then key ∷ [] else take (length (key ∷ []) - 1) (key ∷ []))
    → move_told key ≡ under name → path_told steps ≡ (if of_member then under name ∷ [] else [])
in_line true key name steps is named = ap path_told is ∙ ap (λ move. move ∷ []) named
in_line false key name steps is named = ap path_told is

pub returns : goal.returns
returns c =
    subst (λ moves. IfOk c.place_of.result (λ place. IfSome place (IsPlaceOf None moves c.args.line.now)))
    (in_line (is_of_member c.args.problem) (step.Key c.object_fault_key.result)
    (object_fault_key (options_told c.args.options.now) c.args.problem) c.path_of.result.now c.path_of.ensures
    (ap under c.object_fault_key.ensures)) c.place_of.ensures
