-- the names so far are the first ones
use Rattle.std.proofs.Common.{◌≡◌, map, take}
use Rattle.elasticlunr_text.specs.Text.{bytes_of}
use Rattle.elasticlunr_c_calls.proofs.documents.own_language.Given as goal

abbrev pub invariant-loop-stage : goal.invariant-loop-stage
invariant-loop-stage l = bytes_of l.names.items ≡ map (λ stage. stage.now) (take l.stage-index l.stages)
