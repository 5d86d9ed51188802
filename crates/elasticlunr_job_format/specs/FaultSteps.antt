-- What was seen of a value while its first fault was looked for; for private clauses.
use Rattle.std.specs.Prelude.{◌≡◌, List, map, None, IsSome, IfSome, codes}
use Rattle.serde_json.specs.Data.{Data, string}
use Rattle.serde_json.specs.Find.{as_object, get}
use Rattle.elasticlunr_error.specs.Text.{Bytes}
use Rattle.elasticlunr_job_format.specs.Job.{Document, HasOnly, document, job_keys}
use Rattle.elasticlunr_job_format.specs.JobKeys.{key_name, wanted_under, IsWanted}
use Rattle.elasticlunr_job_format.specs.declared.key.Key.{Key}
use Rattle.elasticlunr_job_format.specs.declared.key.Key.TheVariants.{Fields, Docs}

-- all are texts
abbrev pub AreTexts : List Data → Type 0
AreTexts items = (members : List Bytes) × (items ≡ map string members)

-- it is a document
abbrev pub IsADocument : Data → Type 0
IsADocument d = (doc : Document) × (d ≡ document doc)

-- all are documents
abbrev pub AreDocuments : List Data → Type 0
AreDocuments items = (docs : List Document) × (items ≡ map document docs)

-- it is an object, and each key of it is one of a job
pub record HasJobKeys (d : Data) : Type 0 where
  pub is_object : IsSome (as_object d)
  pub only : HasOnly job_keys d

-- the member under the key, if there is one, is what has to stand there
abbrev pub IsFitUnder : Data → Key → Type 0
IsFitUnder d key = IfSome (get (key_name key) d) (IsWanted (wanted_under key))

-- both members are there that a job has
pub record HasNeeded (d : Data) : Type 0 where
  pub fields : IsSome (get (codes "fields") d)
  pub docs : IsSome (get (codes "docs") d)

-- this is the first of the two that is missing
abbrev pub IsFirstMissing : Data → Key → Type 0
IsFirstMissing d Fields = get (codes "fields") d ≡ None
IsFirstMissing d Docs = IsSome (get (codes "fields") d) × (get (codes "docs") d ≡ None)
IsFirstMissing d _ = ⊥
