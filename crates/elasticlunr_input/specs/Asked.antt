-- The options that the settings ask for, and the text of an index of objects.
use Rattle.std.specs.Prelude.{◌≡◌, List, true, false, codes, unwrap_or, Some, if◌then◌else◌}
use Rattle.serde_json.specs.Data.{Data}
use Rattle.serde_json.specs.Find.{as_array}
use Rattle.serde_json.specs.View.{items_of}
use Rattle.elasticlunr_text.specs.Text.{Bytes}
use Rattle.elasticlunr_job.specs.Answer.{OfIndex}
use Rattle.elasticlunr_job_format.specs.Objects.{Options}
use Rattle.elasticlunr_documents.specs.Objects.{IsMadeOfObjects}
use Rattle.elasticlunr_input.specs.Fields.{fields_of_first}
use Rattle.elasticlunr_input.specs.References.{reference_name, with_reference}
use Rattle.elasticlunr_input.specs.Settled.{Settings, with_stored}

-- the key of the reference
abbrev pub reference_key_of : Settings → Bytes
reference_key_of settings = unwrap_or settings.reference (codes "id")

-- the fields that are named, or else these; the reference where it is indexed; and those that are
-- only stored
abbrev pub fields_with : Settings → (own : List Bytes) → List Bytes
fields_with settings own = with_stored settings.rules (reference_key_of settings)
    (with_reference settings.indexes_reference (reference_key_of settings)
    (unwrap_or settings.fields own))

-- how objects are read whose own fields are these
abbrev pub options_with : Settings → (own : List Bytes) → Options
options_with settings own = record {
  reference_key = reference_key_of settings;
  reference_field = reference_name settings.indexes_reference (reference_key_of settings)
      (fields_with settings own);
  fields = fields_with settings own;
  language = unwrap_or settings.language (codes "English");
  save = if settings.drops_texts then false else true;
  pretty = settings.pretty;
  rules = settings.rules;
}

-- how these objects are read: their own fields are those of the first
abbrev pub options_of : Settings → List Data → Options
options_of settings items = options_with settings
    (fields_of_first (reference_key_of settings) items)

-- this holds of the index of these objects
abbrev pub AreMadeWith : Settings → List Data → OfIndex → Type 0
AreMadeWith settings items Is = IsMadeOfObjects (options_of settings items) items Is

-- this holds of the index of the objects in an array
abbrev pub IsArrayMadeWith : Settings → Data → OfIndex → Type 0
IsArrayMadeWith settings d Is = (items : List Data) × (as_array d ≡ Some (items_of items))
    × AreMadeWith settings items Is
