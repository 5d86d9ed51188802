-- Which field, and which document, a job is refused for.
use Rattle.std.specs.Prelude.{◌≡◌, ◌≤◌, ℕ, List, true, take, slice_get, length, All, Some}
use Rattle.elasticlunr_text.specs.Text.{Bytes}
use Rattle.elasticlunr.specs.Fields.{all_differ, has_name}
use Rattle.elasticlunr_job.specs.Answer.{HasTooMany}
use Rattle.elasticlunr_job_format.specs.Job.{Document}

-- the field with this number, from 0, is the first that has the name of one before it
pub record IsFirstTwice (fields : List Bytes) (i : ℕ) : Type 0 where
  pub name : Bytes
  pub before : all_differ (take i fields) ≡ true
  pub there : slice_get fields i ≡ Some name
  pub twice : has_name name (take i fields) ≡ true

-- no document has more values than there are fields
abbrev pub AllFit : List Bytes → List Document → Type 0
AllFit fields docs = All (λ doc. length doc.values ≤ length fields) docs

-- the document with this number, from 0, is the first with more values than there are fields
pub record IsFirstTooLong (fields : List Bytes) (docs : List Document) (i : ℕ) : Type 0 where
  pub doc : Document
  pub before : AllFit fields (take i docs)
  pub there : slice_get docs i ≡ Some doc
  pub too_many : HasTooMany fields doc
