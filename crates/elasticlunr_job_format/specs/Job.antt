-- What a job is: an object with these members and no others.
use Rattle.std.specs.Prelude.{◌≡◌, List, [], ◌∷◌, Bool, true, false, map, codes, Some, unwrap_or}
use Rattle.std.specs.Prelude.{IsSome, Contains}
use Rattle.serde_json.specs.Data.{Data, boolean, string, array}
use Rattle.serde_json.specs.Find.{get}
use Rattle.serde_json.specs.View.{items_of}
use Rattle.elasticlunr_error.specs.Text.{Bytes}

-- a document: its reference, and its values in the order of the fields
pub record Document : Type 0 where
  pub reference : Bytes
  pub values : List Bytes

pub record Job : Type 0 where
  pub fields : List Bytes
  pub docs : List Document
  pub reference_field : Bytes
  pub save : Bool
  pub language : Bytes
  pub pretty : Bool
  pub remove : List Bytes
  pub compact : Bool

-- an array of texts
abbrev pub texts : List Bytes → Data
texts ss = array (items_of (map string ss))

-- the array of a document's reference and its values
abbrev pub document : Document → Data
document doc = texts (doc.reference ∷ doc.values)

-- the member of an object, or what represents it where there is none
abbrev pub get_or : Bytes → Data → Data → Data
get_or key d absent = unwrap_or (get key d) absent

abbrev pub job_keys : List Bytes
job_keys = codes "fields" ∷ codes "docs" ∷ codes "ref" ∷ codes "save" ∷ codes "lang"
    ∷ codes "pretty" ∷ codes "remove" ∷ codes "compact" ∷ []

-- each key of the object is one of these
abbrev pub HasOnly : List Bytes → Data → Type 0
HasOnly keys d = (key : Bytes) → IsSome (get key d) → Contains keys key

-- the value is this job
pub record IsJob (d : Data) (job : Job) : Type 0 where
  pub fields : get (codes "fields") d ≡ Some (texts job.fields)
  pub docs : get (codes "docs") d ≡ Some (array (items_of (map document job.docs)))
  pub reference_field : get_or (codes "ref") d (string (codes "id")) ≡ string job.reference_field
  pub save : get_or (codes "save") d (boolean true) ≡ boolean job.save
  pub language : get_or (codes "lang") d (string (codes "English")) ≡ string job.language
  pub pretty : get_or (codes "pretty") d (boolean false) ≡ boolean job.pretty
  pub remove : get_or (codes "remove") d (texts []) ≡ texts job.remove
  pub compact : get_or (codes "compact") d (boolean false) ≡ boolean job.compact
  pub no_others : HasOnly job_keys d

-- the value is no job
abbrev pub IsNoJob : Data → Type 0
IsNoJob d = (job : Job) → ¬ IsJob d job
