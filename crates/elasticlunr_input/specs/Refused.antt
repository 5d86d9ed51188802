-- Why no index of the documents is printed.
use Rattle.std.specs.Prelude.{◌≡◌, ◌⊎◌, ◌++◌, ◌∷◌, List, Option, Some, None, map}
use Rattle.serde_json.specs.Data.{Data}
use Rattle.serde_json.specs.Find.{as_array}
use Rattle.serde_json.specs.View.{items_of}
use Rattle.elasticlunr_text.specs.Text.{Bytes}
use Rattle.elasticlunr_job_format.specs.Lines.{readings, AreLineValues}
use Rattle.elasticlunr_job_format.specs.Job.{Document}
use Rattle.elasticlunr_job_format.specs.Objects.{Options, AreDocumentsOf}
use Rattle.elasticlunr_documents.specs.Objects.{FailsObjects}
use Rattle.elasticlunr_job_format.specs.declared.outcome.Refusal.{Refusal}
use Rattle.elasticlunr_documents.specs.declared.objects.ObjectsError.{ObjectsError}
use Rattle.elasticlunr_documents.specs.declared.objects.ObjectsError.TheVariants as error
use Rattle.elasticlunr_diagnostics.specs.Messages.{IsMemoryOr}
use Rattle.elasticlunr_input.specs.Asked.{options_of}
use Rattle.elasticlunr_input.specs.Settled.{Settings, IsRefusedWith}
use Rattle.elasticlunr_diagnostics.specs.declared.message.InputError.{InputError}

-- the values fail a check of objects that are read so
abbrev pub FailObjects : Options → List Data → Type 0
FailObjects options items = (e : ObjectsError) × (¬ (e ≡ error.Memory))
    × FailsObjects options items e

-- the value fails a check of a job with these settings
abbrev pub FailsJob : Settings → Data → Type 0
FailsJob settings d = (refusal : Refusal) × IsRefusedWith settings d refusal

-- the value is no array, or what is in it fails a check
abbrev pub FailsArray : Settings → Data → Type 0
FailsArray settings d = (as_array d ≡ None)
    ⊎ ((items : List Data) × (as_array d ≡ Some (items_of items))
    × FailObjects (options_of settings items) items)

-- a line is not JSON, and those before it are documents, as they are read with the options for
-- their values
abbrev pub HasUnreadLine : (List Data → Options) → Bytes → Type 0
HasUnreadLine options_for text = (before : List Data) × (docs : List Document)
    × (rest : List (Option Data)) × AreDocumentsOf (options_for before) before docs
    × (map Some before ++ None ∷ rest ≡ readings text)

-- a line is the first that is not JSON, or the values of the lines fail a check
abbrev pub FailLines : Settings → Bytes → Type 0
FailLines settings text = HasUnreadLine (options_of settings) text
    ⊎ ((items : List Data) × AreLineValues text items × FailObjects (options_of settings items)
    items)

abbrev pub IsRefusedObjects : Options → List Data → InputError → Type 0
IsRefusedObjects options items = IsMemoryOr (FailObjects options items)
