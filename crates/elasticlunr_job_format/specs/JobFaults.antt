-- What keeps a value from being a job.
use Rattle.std.specs.Prelude.{◌≡◌, ◌+◌, ◌≤◌, ⊤, ℕ, List, take, slice_get, map, Some, None, IsSome}
use Rattle.std.specs.Prelude.{Contains}
use Rattle.serde_json.specs.Data.{Data, string, no_items}
use Rattle.serde_json.specs.Find.{as_array, as_bool, as_object, as_str, get}
use Rattle.serde_json.specs.View.{items_of}
use Rattle.elasticlunr_error.specs.Text.{Bytes}
use Rattle.elasticlunr_job_format.specs.Job as spec
use Rattle.elasticlunr_job_format.specs.Job.{Job, IsJob, document, job_keys}
use Rattle.elasticlunr_job_format.specs.JobKeys.{key_name, key_place, wanted_under}
use Rattle.elasticlunr_job_format.specs.Kinds.{kind_of}
use Rattle.elasticlunr_job_format.specs.declared.fault.DocumentFault.{DocumentFault}
use Rattle.elasticlunr_job_format.specs.declared.fault.DocumentFault.TheVariants as doc
use Rattle.elasticlunr_job_format.specs.declared.fault.Fault.{Fault}
use Rattle.elasticlunr_job_format.specs.declared.fault.Fault.TheVariants.{NotAnObject, UnknownKey}
use Rattle.elasticlunr_job_format.specs.declared.fault.Fault.TheVariants.{Member, Missing}
use Rattle.elasticlunr_job_format.specs.declared.fault.MemberFault.{MemberFault}
use Rattle.elasticlunr_job_format.specs.declared.fault.MemberFault.TheVariants.{Other, Item}
use Rattle.elasticlunr_job_format.specs.declared.fault.MemberFault.TheVariants.{Document}
use Rattle.elasticlunr_job_format.specs.declared.key.Key.{Key}
use Rattle.elasticlunr_job_format.specs.declared.key.Key.TheVariants.{Fields, Docs}
use Rattle.elasticlunr_job_format.specs.declared.key.Wanted.{Wanted}
use Rattle.elasticlunr_job_format.specs.declared.key.Wanted.TheVariants.{Text, Truth, Texts}
use Rattle.elasticlunr_job_format.specs.declared.key.Wanted.TheVariants.{Documents}
use Rattle.elasticlunr_job_format.specs.declared.kind.Kind.{Kind}

-- the first item that is no text has this number, from 0, and is of this kind
pub record IsFirstNoText (items : List Data) (i : ℕ) (found : Kind) : Type 0 where
  pub item : Data
  pub before : List Bytes
  pub texts : take i items ≡ map string before
  pub there : slice_get items i ≡ Some item
  pub no_text : as_str item ≡ None
  pub kind : found ≡ kind_of item

-- what keeps a value from being a document: it is no array, it is empty, or it has an item that is
-- no text
abbrev pub HasDocumentFault : Data → DocumentFault → Type 0
HasDocumentFault d (doc.NotAList found) = (as_array d ≡ None) × (found ≡ kind_of d)
HasDocumentFault d doc.Empty = as_array d ≡ Some no_items
HasDocumentFault d (doc.Item i found) = (items : List Data) × (as_array d ≡ Some (items_of items))
    × IsFirstNoText items i found

-- the first item that is no document has this number, from 0, and this fault
pub record IsFirstNoDocument (items : List Data) (i : ℕ) (fault : DocumentFault) : Type 0 where
  pub item : Data
  pub before : List spec.Document
  pub documents : take i items ≡ map document before
  pub there : slice_get items i ≡ Some item
  pub has : HasDocumentFault item fault

-- why a value is not what it has to be: it is of another kind, or it has an item that is no
-- text, or no document
abbrev pub HasMemberFault : Wanted → Data → MemberFault → Type 0
HasMemberFault Text d (Other found) = (as_str d ≡ None) × (found ≡ kind_of d)
HasMemberFault Truth d (Other found) = (as_bool d ≡ None) × (found ≡ kind_of d)
HasMemberFault Texts d (Other found) = (as_array d ≡ None) × (found ≡ kind_of d)
HasMemberFault Documents d (Other found) = (as_array d ≡ None) × (found ≡ kind_of d)
HasMemberFault Texts d (Item i found) = (items : List Data) × (as_array d ≡ Some (items_of items))
    × IsFirstNoText items i found
HasMemberFault Documents d (Document i fault) = (items : List Data)
    × (as_array d ≡ Some (items_of items)) × IsFirstNoDocument items i fault
HasMemberFault wanted d _ = ⊥

-- a job has a member under this key
abbrev pub IsNeeded : Key → Type 0
IsNeeded Fields = ⊤
IsNeeded Docs = ⊤
IsNeeded _ = ⊥

-- what keeps a value from being a job: it is no object, it has a key that is none of a job, a
-- member with a fault, or a member is missing
abbrev pub HasFault : Data → Fault → Type 0
HasFault d (NotAnObject found) = (as_object d ≡ None) × (found ≡ kind_of d)
HasFault d (UnknownKey key) = IsSome (get key.now d) × (¬ Contains job_keys key.now)
HasFault d (Member key fault) = (member : Data) × (get (key_name key) d ≡ Some member)
    × HasMemberFault (wanted_under key) member fault
HasFault d (Missing key) = IsNeeded key × IsSome (as_object d) × (get (key_name key) d ≡ None)

-- when a fault is looked for: keys, members in their order, members that are missing
abbrev pub turn_of : Fault → ℕ
turn_of (NotAnObject _) = 0
turn_of (UnknownKey _) = 0
turn_of (Member key _) = key_place key
turn_of (Missing key) = 8 + key_place key

-- the value has this fault, and none that is looked for before it
pub record HasFirstFault (d : Data) (fault : Fault) : Type 0 where
  pub has : HasFault d fault
  pub first : (other : Fault) → HasFault d other → turn_of fault ≤ turn_of other

-- the value is some job
abbrev pub IsAJob : Data → Type 0
IsAJob d = (job : Job) × IsJob d job
