-- What a query finds after calls.
use Rattle.std.specs.Prelude.{◌≡◌, ℕ, List, IsTrue, codes}
use Rattle.std.specs.Float.{Float}
use Rattle.elasticlunr.specs.AnyLanguage.{AnyLanguage}
use Rattle.elasticlunr.specs.Calls.{Call}
use Rattle.elasticlunr.specs.Current.{IsReadableAfter}
use Rattle.elasticlunr.specs.Fields.{all_differ, borrowed}
use Rattle.elasticlunr.specs.Kept.{KeptReads}
use Rattle.elasticlunr.specs.Known.{language_name}
use Rattle.elasticlunr.specs.Standing.{Plan}
use Rattle.elasticlunr.specs.Text.{Text, Bytes}
use Rattle.elasticlunr_job.specs.Calls.{job_calls}
use Rattle.elasticlunr_job_format.specs.Job.{Job}
use Rattle.elasticlunr_laws.specs.Ranked.{RanksAfter}
use Rattle.elasticlunr_search.specs.AfterCalls.{FindsInFieldsAfter}
use Rattle.elasticlunr_search.specs.declared.words.Join.TheVariants.{Any}
use Rattle.elasticlunr_uses.specs.declared.query.Query.{Query}

-- these are the references that the query finds after the calls, in one or more of its fields;
-- `reads` relates the number of a field and a text to the tokens that are read of it
abbrev pub AreFoundBy : (reads : ℕ → Bytes → List Text → Type 0) → (fields : List Bytes)
    → (reference_field : Bytes) → List Call → Query → (found : List Bytes) → Type 0
AreFoundBy reads fields reference_field calls query found = FindsInFieldsAfter reads fields
    reference_field calls query.join (borrowed query.fields.now) query.words.now found

-- for each index of this language and all calls after which the text is its print, these are found
abbrev pub FindsInPrints : AnyLanguage → (text : Bytes) → Query → (found : List Bytes) → Type 0
FindsInPrints language text query found = (plan : Plan) (calls : List Call)
    → IsReadableAfter (KeptReads language) plan calls text
    → AreFoundBy (KeptReads language) plan.fields plan.reference_field calls query found

-- they are found after the calls of the job, in the language that it names
abbrev pub FindsInJob : Job → Query → (found : List Bytes) → Type 0
FindsInJob job query found = (language : AnyLanguage) × (language_name language ≡ job.language)
    × AreFoundBy (KeptReads language) job.fields job.reference_field (job_calls job) query found

-- for each index of this language whose fields have different names, and all calls after which the
-- text is its print, the hits are what the query finds in the field `body`
abbrev pub RanksInPrints : AnyLanguage → (text query : Bytes) → (hits : List (Bytes × Float))
    → Type 0
RanksInPrints language text query hits = (plan : Plan) (calls : List Call)
    → IsTrue (all_differ plan.fields) → IsReadableAfter (KeptReads language) plan calls text
    → RanksAfter (KeptReads language) plan.fields plan.reference_field calls
    Any (codes "body") query hits
