-- Why there is no index, and the place that a message speaks of.
use Rattle.std.specs.Option.{SomeIff}
use Rattle.std.specs.Prelude.{◌≡◌, ◌+◌, ◌<◌, ◌^◌, ◌==◌, ◌++◌, ⊤, ℕ, [], Option, Some, None, IfSome}
use Rattle.std.specs.Prelude.{IsSome, codes, decimal, if◌then◌else◌}
use Rattle.elasticlunr_text.specs.Text.{Bytes}
use Rattle.elasticlunr_diagnostics.specs.declared.message.InputError.{InputError}
use Rattle.elasticlunr_diagnostics.specs.declared.message.InputError.TheVariants.{Refused, Memory}
use Rattle.elasticlunr_diagnostics.specs.declared.message.InputError.TheVariants.{Device, TooManyLines}
use Rattle.elasticlunr_json_place.specs.Whole.{below}
use Rattle.elasticlunr_json_place.specs.declared.place.Place.{Place}

-- memory runs out, or it is refused for this reason
abbrev pub IsMemoryOr : Type 0 → InputError → Type 0
IsMemoryOr reason Memory = ⊤
IsMemoryOr reason (Device _) = ⊥
IsMemoryOr reason TooManyLines = ⊥
IsMemoryOr reason (Refused _) = reason

-- memory runs out, or the reader failed: nothing is refused, and no line is one too many
abbrev pub IsMemoryOrDevice : InputError → Type 0
IsMemoryOrDevice Memory = ⊤
IsMemoryOrDevice (Device _) = ⊤
IsMemoryOrDevice TooManyLines = ⊥
IsMemoryOrDevice (Refused _) = ⊥

-- memory runs out, or it is refused, and the message has a place
abbrev pub IsMemoryOrPlaced : InputError → Type 0
IsMemoryOrPlaced Memory = ⊤
IsMemoryOrPlaced (Device _) = ⊥
IsMemoryOrPlaced TooManyLines = ⊥
IsMemoryOrPlaced (Refused message) = IsSome message.place

-- the place of a refusal is so, where its message has one
abbrev pub IfPlaced : (Place → Type 0) → InputError → Type 0
IfPlaced Is Memory = ⊤
IfPlaced Is (Device _) = ⊤
IfPlaced Is TooManyLines = ⊤
IfPlaced Is (Refused message) = IfSome message.place Is

-- a place is so many lines below another one, where that is known, and its line has a number then
abbrev pub IsLowered : (at : Option Place) → ℕ → (place : Option Place) → Type 0
IsLowered None lines place = place ≡ None
IsLowered (Some at) lines place = SomeIff place (lines + at.line < 2 ^ 64) (below lines at)

-- so many things of this name: `1 field`, or `2 fields`
abbrev pub counted_text : (count : ℕ) (name : Bytes) → Bytes
counted_text count name = decimal count ++ (codes " " ++ (name
    ++ (if count == 1 then [] else codes "s")))
