-- What all documents of an input leave in the notes.
use Rattle.std.specs.Prelude.{◌≡◌, ◌+◌, ◌-◌, ◌^◌, ◌++◌, ◌∷◌, ◌||◌, ◌==◌, ℕ, Bool, List, [], map}
use Rattle.std.specs.Prelude.{min, Option, Some, bytes_eq, codes, length, if◌then◌else◌}
use Rattle.std.specs.List.{AllZip, list_any}
use Rattle.serde_json.specs.Data.{Data}
use Rattle.elasticlunr_text.specs.Text.{Bytes, is_listed}
use Rattle.elasticlunr_job_format.specs.Job.{Document, IsJob, Job}
use Rattle.elasticlunr_job_format.specs.Lines.{AreLineValues}
use Rattle.elasticlunr_job_format.specs.Objects.{Options, IsDocumentOf}
use Rattle.elasticlunr_job_format.specs.Rules.{WordRules}
use Rattle.elasticlunr_input.specs.Noted.{document_warnings, has_value, HasSameLimits, HasSameSeen}
use Rattle.elasticlunr_input.specs.Noted.{HasSameWords, is_expected, longest_under, stored_under}
use Rattle.elasticlunr_input.specs.Noted.{texts_keys, too_long_of}
use Rattle.elasticlunr_input.specs.Settled.{Settings, settled}
use Rattle.elasticlunr_input.specs.Warnings.{fields_warnings, has_text}
use Rattle.elasticlunr_input.specs.Warnings.{is_known, last_number}
use Rattle.elasticlunr_input.specs.Warnings.{NumbersReference, warnings_of}
use Rattle.elasticlunr_input.specs.declared.notes.Notes.{Notes}

-- a document, and the keys under which its object has texts; one of a job has no object, and so no
-- keys
abbrev pub Told : Type 0
Told = Document × List Bytes

-- the documents of a job
abbrev pub told_of_job : List Document → List Told
told_of_job docs = map (λ doc. (doc, [])) docs

-- the value is this document, and has texts under these keys
abbrev pub IsToldOf : Options → Data → Told → Type 0
IsToldOf options d told = IsDocumentOf options d told.0 × (told.1 ≡ texts_keys d)

-- so are the values, in order
abbrev pub AreToldOf : Options → List Data → List Told → Type 0
AreToldOf options items told = AllZip (IsToldOf options) items told

-- the notes when it is known which words are limited, by these rules for these fields
pub record HasRules (rules : Option WordRules) (fields : List Bytes) (old new : Notes) :
    Type 0 where
  pub longest : new.longest ≡ longest_under rules old.longest
  pub stored : new.is_stored.items ≡ old.is_stored.items ++ stored_under rules fields
  pub seen : HasSameSeen old new

-- the notes when it is known how objects are read: also for which keys no warning is due
pub record HasBegun (settings : Settings) (options : Options) (old new : Notes) : Type 0 where
  pub rules : HasRules settings.rules options.fields old new
  pub known : (key : Bytes) → is_known new key ≡ is_expected settings options key

-- the notes after one document more
pub record IsNoted (old new : Notes) (told : Told) : Type 0 where
  pub taken : new.taken ≡ min (old.taken + 1) (2 ^ 64 - 1)
  pub warnings : warnings_of new ≡ warnings_of old ++ document_warnings new.taken told.0.reference
      (last_number old told.0.reference) (is_known old) told.1
  pub number : NumbersReference old new told.0.reference new.taken
  pub known : (key : Bytes) → is_known new key ≡ (is_known old key || is_listed key told.1)
  pub texts : (number : ℕ) → has_text new number
      ≡ (has_text old number || has_value told.0.values number)
  pub words : new.longer ≡ min (old.longer + too_long_of old told.0.values) (2 ^ 64 - 1)
  pub limits : HasSameLimits old new

-- the notes after these documents, in order, each once
abbrev pub AreNoted : (old new : Notes) → List Told → Type 0
AreNoted old new [] = new ≡ old
AreNoted old new (told ∷ others) = (next : Notes) × IsNoted old next told × AreNoted next new others

-- what the notes see of a value that is a document
abbrev pub Notices : (old new : Notes) → Data → Document → Type 0
Notices old new d doc = IsNoted old new (doc, texts_keys d)

-- the number of the document after so many
abbrev pub next_number : ℕ → ℕ
next_number taken = min (taken + 1) (2 ^ 64 - 1)

-- the warnings of documents, in order: so many were taken before them, the references had the
-- documents of these numbers, and these keys are known
abbrev pub documents_warnings : (taken : ℕ) (last : Bytes → Option ℕ) (is_known : Bytes → Bool)
    → List Told → List Bytes
documents_warnings taken last is_known [] = []
documents_warnings taken last is_known (told ∷ others) = document_warnings (next_number taken)
    told.0.reference (last told.0.reference) is_known told.1
    ++ documents_warnings (next_number taken)
    (λ r. if bytes_eq told.0.reference r then Some (next_number taken) else last r)
    (λ key. is_known key || is_listed key told.1) others

-- one of these documents has a text in the field of this number
abbrev pub has_values : List Told → ℕ → Bool
has_values told number = list_any (λ each. has_value each.0.values number) told

-- those of the end of these documents, which were noted after others: that there is none, or those
-- of the fields
abbrev pub all_end_warnings : Notes → List Told → List Bytes → List Bytes
all_end_warnings notes told fields = if notes.taken + length told == 0
    then codes "the index is empty: there is no document" ∷ []
    else fields_warnings (λ number. has_text notes number || has_values told number) fields

-- all warnings of documents that are noted after others, and of these fields
abbrev pub all_warnings : Notes → List Told → List Bytes → List Bytes
all_warnings notes told fields = documents_warnings notes.taken (last_number notes) (is_known notes)
    told ++ all_end_warnings notes told fields

-- the notes after these documents, in order, and then after these fields
abbrev pub AreNotedWith : List Bytes → List Told → (old new : Notes) → Type 0
AreNotedWith fields told old new = (last : Notes) × AreNoted old last told
    × (warnings_of new ≡ warnings_of old ++ all_warnings old told fields) × HasSameWords last new

-- the notes after the documents that lines are, in order, and then after these fields
abbrev pub AreNotedLines : Options → Bytes → (old new : Notes) → Type 0
AreNotedLines options text old new = (items : List Data) × AreLineValues text items
    × (told : List Told) × AreToldOf options items told × AreNotedWith options.fields told old new

-- the notes after the documents that objects are, in order, and then after the fields
abbrev pub AreNotedObjects : Settings → Options → List Data → (old new : Notes) → Type 0
AreNotedObjects settings options items old new = (begun : Notes)
    × HasBegun settings options old begun × (told : List Told) × AreToldOf options items told
    × AreNotedWith options.fields told begun new

-- the notes after the documents of a job, in order, and then after its fields, under these rules
abbrev pub AreNotedUnder : Option WordRules → Job → (old new : Notes) → Type 0
AreNotedUnder rules job old new = (begun : Notes) × HasRules rules job.fields old begun
    × AreNotedWith job.fields (told_of_job job.docs) begun new

-- so it is of the job that a value is, with these settings
abbrev pub IsNotedJob : Settings → Data → (old new : Notes) → Type 0
IsNotedJob settings d old new = (job : Job) × IsJob d job
    × AreNotedUnder settings.rules (settled settings job) old new
