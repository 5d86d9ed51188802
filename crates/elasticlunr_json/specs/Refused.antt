-- Why reading a value was refused.
use Rattle.std.specs.Prelude.{◌≡◌, Result, IfOk, IsOkUnless}
use Rattle.elasticlunr_error.specs.declared.error.IndexError.{IndexError}
use Rattle.elasticlunr_error.specs.declared.error.IndexError.TheVariants.{DuplicateField}
use Rattle.elasticlunr_error.specs.declared.error.IndexError.TheVariants.{TooManyValues, BadClass}
use Rattle.elasticlunr_error.specs.declared.error.IndexError.TheVariants.{ForeignValue, Failed}
use Rattle.elasticlunr_error.specs.declared.error.IndexError.TheVariants.{Memory}

-- memory was refused, or the value is foreign, and then P
abbrev pub IsRefused : Type 0 → IndexError → Type 0
IsRefused P DuplicateField = ⊥
IsRefused P TooManyValues = ⊥
IsRefused P BadClass = ⊥
IsRefused P ForeignValue = P
IsRefused P Failed = ⊥
IsRefused P Memory = Unit {0}

-- an answer to a value is this one, or memory was refused
abbrev pub IsAnswer : {A : Type 0} → A → Result A IndexError → Type 0
IsAnswer x answer = IfOk answer (λ y. y ≡ x) × IsOkUnless answer Memory
