-- The status that the process ends with.
use Rattle.std.specs.Prelude.{ℕ}
use Rattle.elasticlunr_diagnostics.specs.declared.outcome.Outcome.{Outcome}
use Rattle.elasticlunr_diagnostics.specs.declared.outcome.Outcome.TheVariants.{Done, Refused}
use Rattle.elasticlunr_diagnostics.specs.declared.outcome.Outcome.TheVariants.{Failed, Misused}

abbrev pub status_of : Outcome → ℕ
status_of Done = 0
status_of Failed = 1
status_of Refused = 2
status_of Misused = 64
