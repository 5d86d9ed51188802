-- no object begins where one was looked for
use Rattle.std.proofs.Common.{◌≡◌, ◌<◌, ℕ, false, drop}
use Rattle.elasticlunr_diagnostics.specs.Script.{begins_object}
use Rattle.elasticlunr_diagnostics.proofs.script.object_start.Given as goal

abbrev pub invariant-loop-start : goal.invariant-loop-start
invariant-loop-start l = (k : ℕ) → k < l.start → begins_object (drop k l.script) ≡ false
