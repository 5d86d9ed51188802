-- Why a use finds nothing.
use Rattle.std.specs.Prelude.{◌≡◌, ◌⊎◌, List, Contains, false}
use Rattle.elasticlunr.specs.AnyLanguage.{AnyLanguage}
use Rattle.elasticlunr.specs.Calls.{Call}
use Rattle.elasticlunr.specs.Current.{IsReadableAfter}
use Rattle.elasticlunr.specs.Fields.{has_name}
use Rattle.elasticlunr.specs.IndexError.TheVariants as index
use Rattle.elasticlunr.specs.Kept.{KeptReads}
use Rattle.elasticlunr.specs.Known.{language_name, language_stages}
use Rattle.elasticlunr.specs.Standing.{Plan}
use Rattle.elasticlunr.specs.Text.{Bytes}
use Rattle.elasticlunr_job.specs.Answer.{FailsAt}
use Rattle.elasticlunr_job.specs.Calls.{job_calls}
use Rattle.elasticlunr_job.specs.Commands.{job_plan}
use Rattle.elasticlunr_job_format.specs.Job.{Job as JobTold}
use Rattle.elasticlunr_job_format.specs.JobError.{StopsWithReason}
use Rattle.elasticlunr_job_format.specs.declared.outcome.JobError.{JobError}
use Rattle.elasticlunr_laws.specs.Depth.{NestsTooDeep}
use Rattle.elasticlunr_search.specs.declared.error.SearchError.{SearchError}
use Rattle.elasticlunr_search.specs.declared.error.SearchError.TheVariants.{Memory, NoSuchField}
use Rattle.elasticlunr_search.specs.declared.error.SearchError.TheVariants.{TooDeep}
use Rattle.elasticlunr_uses.specs.declared.error.UseError.{UseError}
use Rattle.elasticlunr_uses.specs.declared.error.UseError.TheVariants.{Index, Search, Job}

-- the search fails for this reason
abbrev pub SearchFails : (why : SearchError → Type 0) → UseError → Type 0
SearchFails why e = (stop : SearchError) × (e ≡ Search stop) × why stop

-- memory runs out while an index is built or printed
abbrev pub BuildsNoIndex : UseError → Type 0
BuildsNoIndex e = e ≡ Index index.Memory

-- no text of an index of this language and this plan after these calls is read: memory runs out, or
-- it nests too deep
abbrev pub ReadsNoText : AnyLanguage → Plan → List Call → SearchError → Type 0
ReadsNoText language plan calls e = (e ≡ Memory)
    ⊎ ((e ≡ TooDeep) × NestsTooDeep language plan calls)

-- there is no field of one of these names
abbrev pub LacksOneOf : (fields names : List Bytes) → SearchError → Type 0
LacksOneOf fields names e = (e ≡ NoSuchField)
    × ((name : Bytes) × Contains names name × (has_name name fields ≡ false))

-- the text is not read, or the index has no field of one of these names
abbrev pub FindsNothing : AnyLanguage → Plan → List Call → (names : List Bytes) → SearchError
    → Type 0
FindsNothing language plan calls names e = ReadsNoText language plan calls e
    ⊎ LacksOneOf plan.fields names e

-- the same for each index of this language and its stages and all calls after which the text is its
-- print
abbrev pub FindsNothingInPrints : AnyLanguage → (text : Bytes) → (names : List Bytes) → SearchError
    → Type 0
FindsNothingInPrints language text names e = (plan : Plan) (calls : List Call)
    → plan.language ≡ language_name language → plan.stages ≡ language_stages language
    → IsReadableAfter (KeptReads language) plan calls text
    → FindsNothing language plan calls names e

-- there is no index of the job: memory runs out, or the job is refused, for this reason
abbrev pub MakesNoIndex : JobTold → UseError → Type 0
MakesNoIndex job e = (stop : JobError) × (e ≡ Job stop) × StopsWithReason (FailsAt job) stop

-- the job has no index, or nothing is found in its text in the language that it names
abbrev pub FindsNothingIn : JobTold → (names : List Bytes) → UseError → Type 0
FindsNothingIn job names e = MakesNoIndex job e ⊎ ((language : AnyLanguage)
    × (language_name language ≡ job.language)
    × SearchFails (FindsNothing language (job_plan job language) (job_calls job) names) e)
