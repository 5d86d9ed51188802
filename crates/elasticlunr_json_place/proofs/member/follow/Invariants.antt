-- what the rest of the path leads to from here
use Rattle.std.proofs.Common.{◌≡◌, drop}
use Rattle.serde_json.specs.View.{view}
use Rattle.elasticlunr_json_place.specs.Members.{follow, path_told}
use Rattle.elasticlunr_json_place.proofs.member.follow.Given as goal

abbrev pub invariant-loop-step : goal.invariant-loop-step
invariant-loop-step l = follow (path_told (drop l.step-index l.path)) (view l.here)
    ≡ follow (path_told l.path) (view l.value)
