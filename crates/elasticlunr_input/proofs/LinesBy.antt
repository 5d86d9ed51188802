-- Lines that fail a check as they are read with the same options, whatever their values.
use Rattle.std.proofs.Common.{◌⊎◌, List}
use Rattle.serde_json.specs.Data.{Data}
use Rattle.elasticlunr_text.specs.Text.{Bytes}
use Rattle.elasticlunr_job_format.specs.Lines.{AreLineValues}
use Rattle.elasticlunr_job_format.specs.Objects.{Options}
use Rattle.elasticlunr_json_place.specs.Places.{IsPlaceIn}
use Rattle.elasticlunr_json_place.specs.declared.place.Place.{Place}
use Rattle.elasticlunr_input.specs.FaultPlaces.{IsPlaceInObjectLines}
use Rattle.elasticlunr_input.specs.Refused.{FailObjects, HasUnreadLine}

-- a line is the first that is not JSON, or the values of the lines fail a check of objects
abbrev pub FailLinesOf : Options → Bytes → Type 0
FailLinesOf options text = HasUnreadLine (λ _. options) text
    ⊎ ((items : List Data) × AreLineValues text items × FailObjects options items)

-- it is in the text, a line of which is not JSON, or it is that of the first problem of the values of the lines
abbrev pub IsPlaceInLines : Bytes → Options → Place → Type 0
IsPlaceInLines text options place = (HasUnreadLine (λ _. options) text × IsPlaceIn text place)
    ⊎ ((items : List Data) × AreLineValues text items × IsPlaceInObjectLines text options items place)
