-- On the places of lines that are no documents.
use Rattle.std.proofs.Common.{◌≡◌, ℕ, List, take, map, Option, Some, None, Result, Ok, Err, IfErr, IfSome, IsErrAnd}
use Rattle.std.proofs.Common.{inl, inr, sym, subst}
use Rattle.serde_json.specs.Data.{Data}
use Rattle.elasticlunr_text.specs.Text.{Bytes}
use Rattle.elasticlunr_job_format.specs.Lines.{readings}
use Rattle.elasticlunr_job_format.specs.Objects.{Options}
use Rattle.elasticlunr_input.specs.Asked.{options_of}
use Rattle.elasticlunr_input.specs.FaultPlaces.{IsPlaceInObjectLines}
use Rattle.elasticlunr_input.specs.Inputs.{IsBelow, IsPlacedBelow}
use Rattle.elasticlunr_diagnostics.specs.Messages.{IfPlaced, IsLowered}
use Rattle.elasticlunr_input.specs.RefusedPlaces.{IsLinesPlace}
use Rattle.elasticlunr_input.specs.Settled.{Settings}
use Rattle.elasticlunr_diagnostics.specs.declared.message.InputError.{InputError}
use Rattle.elasticlunr_diagnostics.specs.declared.message.InputError.TheVariants.{Refused, Memory, Device}
use Rattle.elasticlunr_diagnostics.specs.declared.message.InputError.TheVariants.{TooManyLines}
use Rattle.elasticlunr_json_place.specs.declared.place.Place.{Place}
use Rattle.elasticlunr_input.proofs.LinesBy.{IsPlaceInLines}
use Rattle.elasticlunr_input.proofs.LineLemmas.{first_options, unread_with}

pub some_for : (P Q : Place → Type 0) (o : Option Place) → ((place : Place) → P place → Q place) → IfSome o P
    → IfSome o Q
some_for P Q None more is = tt
some_for P Q (Some place) more is = more place is

pub placed_for : (P Q : Place → Type 0) (e : InputError) → ((place : Place) → P place → Q place) → IfPlaced P e
    → IfPlaced Q e
placed_for P Q Memory more is = tt
placed_for P Q (Device failed) more is = tt
placed_for P Q TooManyLines more is = tt
placed_for P Q (Refused message) more is = some_for P Q message.place more is

-- and where the trouble is that of a call
pub placed_again : (P Q : Place → Type 0) {T : Type 0} (e : InputError) (r : Result T InputError)
    → ((place : Place) → P place → Q place) → IsErrAnd r (λ x. x ≡ e) → IfPlaced P e → IfErr r (IfPlaced Q)
placed_again P Q e (Ok x) more same is = tt
placed_again P Q e (Err x) more same is = placed_for P Q x more (subst (IfPlaced P) (sym same) is)

-- the place of a message about a line, where it has one
pub some_below : (lines : ℕ) (P Q : Place → Type 0) (place : Option Place) → ((at : Place) → P at → Q at)
    → IsPlacedBelow lines P place → IfSome place (IsBelow lines Q)
some_below lines P Q None more is = tt
some_below lines P Q (Some place) more is = (is.0, is.2.1, more is.0 is.1)

-- and where the place is known that it is lowered from, if there is one
pub lowered_below : (lines : ℕ) (P : Place → Type 0) (at place : Option Place) → IfSome at P → IsLowered at lines place
    → IfSome place (IsBelow lines P)
lowered_below lines P at None is low = tt
lowered_below lines P None (Some place) is low = absurd (cc)
lowered_below lines P (Some at) (Some place) is low = (at, low.1, is)

-- with the options that the settings give for the first value
pub place_with : (settings : Settings) (text : Bytes) (options : Options) (first : List Data) → map Some first
    ≡ take 1 (readings text) → options ≡ options_of settings first
    → (place : Place) → IsPlaceInLines text options place → IsLinesPlace settings text place
place_with settings text options first begins told place is = elim is [
  | inl unread ↦ inl (unread_with settings text options first begins told unread.0, unread.1)
  | inr f ↦ inr (
    f.0,
    f.1,
    subst (λ o. IsPlaceInObjectLines text o f.0 place)
        (first_options settings text options first begins told f.0 f.1) f.2,
  )
]

pub placed_as : (P Q : Place → Type 0) {T : Type 0} (r : Result T InputError) → ((place : Place) → P place → Q place)
    → IfErr r (IfPlaced P) → IfErr r (IfPlaced Q)
placed_as P Q (Ok x) more is = tt
placed_as P Q (Err e) more is = placed_for P Q e more is
