-- The place of a refusal: where that stands in the input for which it is refused.
use Rattle.std.specs.Prelude.{◌≡◌, ◌⊎◌, List, Some, None, []}
use Rattle.serde_json.specs.Data.{Data}
use Rattle.serde_json.specs.Find.{as_array}
use Rattle.serde_json.specs.View.{items_of}
use Rattle.elasticlunr_text.specs.Text.{Bytes}
use Rattle.elasticlunr_job_format.specs.Reading.{reading}
use Rattle.elasticlunr_job_format.specs.declared.outcome.Refusal.{Refusal}
use Rattle.elasticlunr_input.specs.Asked.{options_of}
use Rattle.elasticlunr_input.specs.FaultPlaces.{IsPlaceInJob, IsPlaceInObjectLines}
use Rattle.elasticlunr_input.specs.FaultPlaces.{IsPlaceInObjects}
use Rattle.elasticlunr_input.specs.Indexes.{IsNotJson}
use Rattle.elasticlunr_job_format.specs.Lines.{AreLineValues}
use Rattle.elasticlunr_json_place.specs.Members.{IsPlaceOf}
use Rattle.elasticlunr_json_place.specs.Places.{IsPlaceIn}
use Rattle.elasticlunr_input.specs.Refused.{HasUnreadLine}
use Rattle.elasticlunr_input.specs.Settled.{Settings, IsRefusedWith}
use Rattle.elasticlunr_diagnostics.specs.declared.form.Form.{Form}
use Rattle.elasticlunr_diagnostics.specs.declared.form.Form.TheVariants.{Job, Objects, Lines}
use Rattle.elasticlunr_json_place.specs.declared.place.Place.{Place}

-- it is that of what the value is refused for as a job with these settings
abbrev pub IsJobPlace : Settings → Bytes → Data → Place → Type 0
IsJobPlace settings text d place = (refusal : Refusal) × IsRefusedWith settings d refusal
    × IsPlaceInJob settings text d refusal place

-- that of the value, which is no array, or of the first problem of what is in it
abbrev pub IsArrayPlace : Settings → Bytes → Data → Place → Type 0
IsArrayPlace settings text d place = ((as_array d ≡ None) × IsPlaceOf None [] text place)
    ⊎ ((items : List Data) × (as_array d ≡ Some (items_of items))
    × IsPlaceInObjects text (options_of settings items) items place)

-- it is in the text, a line of which is not JSON, or it is that of the first problem of the values
-- of the lines, as they are read with these settings
abbrev pub IsLinesPlace : Settings → Bytes → Place → Type 0
IsLinesPlace settings text place = (HasUnreadLine (options_of settings) text × IsPlaceIn text place)
    ⊎ ((items : List Data) × AreLineValues text items
    × IsPlaceInObjectLines text (options_of settings items) items place)

-- it is that of what an input of this form is refused for
abbrev pub IsPlaceAs : Form → Settings → Bytes → Place → Type 0
IsPlaceAs Job settings text place = (d : Data) × (reading text ≡ Some d)
    × IsJobPlace settings text d place
IsPlaceAs Objects settings text place = (d : Data) × (reading text ≡ Some d)
    × IsArrayPlace settings text d place
IsPlaceAs Lines settings text place = IsLinesPlace settings text place

-- it is in the text, which is not JSON, or it is that of what the input of this form is refused for
abbrev pub IsInputPlace : Form → Settings → Bytes → Place → Type 0
IsInputPlace form settings text place = (IsNotJson form text × IsPlaceIn text place)
    ⊎ IsPlaceAs form settings text place
