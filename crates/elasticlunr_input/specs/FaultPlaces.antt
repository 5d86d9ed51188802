-- The place of what an input is refused for.
use Rattle.std.specs.Prelude.{◌≡◌, ◌-◌, ◌⊎◌, ℕ, List, [], ◌∷◌, Bool, true, false, Some, None}
use Rattle.std.specs.Prelude.{slice_get, unwrap_or, codes, if◌then◌else◌}
use Rattle.serde_json.specs.Data.{Data}
use Rattle.elasticlunr_text.specs.Text.{Bytes}
use Rattle.elasticlunr_job_format.specs.Job.{Job, IsJob}
use Rattle.elasticlunr_job_format.specs.JobFaults.{HasFirstFault}
use Rattle.elasticlunr_job_format.specs.Objects.{Options, IsFirstProblem}
use Rattle.elasticlunr_job_format.specs.declared.fault.Fault.{Fault}
use Rattle.elasticlunr_job_format.specs.declared.objects.ObjectFault.{ObjectFault}
use Rattle.elasticlunr_job_format.specs.declared.objects.ObjectFault.TheVariants as problem
use Rattle.elasticlunr_job_format.specs.declared.outcome.Refusal.{Refusal}
use Rattle.elasticlunr_job_format.specs.declared.outcome.Refusal.TheVariants.{UnknownLanguage}
use Rattle.elasticlunr_job_format.specs.declared.outcome.Refusal.TheVariants.{DuplicateField}
use Rattle.elasticlunr_job_format.specs.declared.outcome.Refusal.TheVariants.{TooManyValues}
use Rattle.elasticlunr_input.specs.FirstFaults.{IsFirstTooLong, IsFirstTwice}
use Rattle.elasticlunr_input.specs.Settled.{Settings, settled}
use Rattle.elasticlunr_diagnostics.specs.FaultPaths.{fault_path}
use Rattle.elasticlunr_json_place.specs.Members.{Move, item, under, IsPlaceOf}
use Rattle.elasticlunr_json_place.specs.declared.place.Place.{Place}

-- the place is that of the language of a job, which no setting names
abbrev pub IsPlaceOfLanguage : Settings → Bytes → Place → Type 0
IsPlaceOfLanguage settings text place = (settings.language ≡ None)
    × IsPlaceOf None (under (codes "lang") ∷ []) text place

-- of the second field of a name, where no setting names the fields
abbrev pub IsPlaceOfField : Settings → Bytes → Job → Place → Type 0
IsPlaceOfField settings text job place = (settings.fields ≡ None)
    × ((i : ℕ) × IsFirstTwice job.fields i × IsPlaceOf None (under (codes "fields") ∷ item i ∷ [])
    text place)

-- of the first document that has more values than the job has fields
abbrev pub IsPlaceOfTooLong : Bytes → Job → Place → Type 0
IsPlaceOfTooLong text job place = (i : ℕ) × IsFirstTooLong job.fields job.docs i
    × IsPlaceOf None (under (codes "docs") ∷ item i ∷ []) text place

-- the place is that of what a job with these settings fails a check for
abbrev pub IsPlaceOfRefusal : Settings → Bytes → Job → Refusal → Place → Type 0
IsPlaceOfRefusal settings text job UnknownLanguage place = IsPlaceOfLanguage settings text place
IsPlaceOfRefusal settings text job DuplicateField place = IsPlaceOfField settings text job place
IsPlaceOfRefusal settings text job TooManyValues place = IsPlaceOfTooLong text job place
IsPlaceOfRefusal settings text job _ place = ⊥

-- the place is that of the first fault of a value that is no job, or of what its job with these
-- settings fails a check for
abbrev pub IsPlaceInJob : Settings → Bytes → Data → Refusal → Place → Type 0
IsPlaceInJob settings text d refusal place = ((fault : Fault) × HasFirstFault d fault
    × IsPlaceOf None (fault_path fault) text place)
    ⊎ ((job : Job) × IsJob d job × IsPlaceOfRefusal settings text (settled settings job) refusal
    place)

-- the problem is that of a member, and not of the object
abbrev pub is_of_member : ObjectFault → Bool
is_of_member (problem.NotAReference _) = true
is_of_member (problem.NotAText _ _) = true
is_of_member _ = false

-- the key of that member
abbrev pub object_fault_key : Options → ObjectFault → Bytes
object_fault_key options (problem.NotAText number _) = unwrap_or (slice_get options.fields number)
    []
object_fault_key options _ = options.reference_key

-- from an object to what has the problem
abbrev pub object_fault_path : Options → ObjectFault → List Move
object_fault_path options problem = if is_of_member problem then under
    (object_fault_key options problem) ∷ [] else []

-- the place is that of a problem of the object with this number, from 1, in an array, or in its
-- line
abbrev pub IsPlaceOfItem : Bytes → Options → ℕ → ObjectFault → Place → Type 0
IsPlaceOfItem text options number problem place = IsPlaceOf None (item (number - 1)
    ∷ object_fault_path options problem) text place

abbrev pub IsPlaceOfLine : Bytes → Options → ℕ → ObjectFault → Place → Type 0
IsPlaceOfLine text options number problem place = IsPlaceOf (Some (number - 1))
    (object_fault_path options problem) text place

-- the place is that of the first problem of these objects, which stand in an array
abbrev pub IsPlaceInObjects : Bytes → Options → List Data → Place → Type 0
IsPlaceInObjects text options items place = (number : ℕ) × (problem : ObjectFault)
    × IsFirstProblem options items number problem × IsPlaceOfItem text options number problem
    place

-- or each in a line
abbrev pub IsPlaceInObjectLines : Bytes → Options → List Data → Place → Type 0
IsPlaceInObjectLines text options items place = (number : ℕ) × (problem : ObjectFault)
    × IsFirstProblem options items number problem × IsPlaceOfLine text options number problem
    place
