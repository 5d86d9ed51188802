-- A job with the settings instead of what it says itself.
use Rattle.std.specs.Prelude.{◌∷◌, ◌++◌, List, Bool, true, false, not, Option, Some, None, filter}
use Rattle.std.specs.Prelude.{option_map, unwrap_or, string_bytes, if◌then◌else◌}
use Rattle.serde_json.specs.Data.{Data}
use Rattle.elasticlunr_text.specs.Text.{Bytes, bytes_of}
use Rattle.elasticlunr.specs.Fields.{has_name}
use Rattle.elasticlunr_job_format.specs.Job.{IsNoJob, Job, IsJob}
use Rattle.elasticlunr_job.specs.Answer.{FailsAt, IsMadeBy, OfIndex}
use Rattle.elasticlunr_job_format.specs.Rules.{WordRules}
use Rattle.elasticlunr_job_format.specs.declared.outcome.Refusal.{Refusal}
use Rattle.elasticlunr_job_format.specs.declared.outcome.Refusal.TheVariants.{NotJson, NotAJob}
use Rattle.elasticlunr_input.specs.References.{reference_name}
use Rattle.elasticlunr_input.specs.declared.settings.Rules as declared_rules
use Rattle.elasticlunr_input.specs.declared.settings.Settings as declared

-- the settings of an index that do not come from its input
pub record Settings : Type 0 where
  pub fields : Option (List Bytes)
  pub reference : Option Bytes
  pub language : Option Bytes
  pub drops_texts : Bool
  pub pretty : Bool
  pub rules : Option WordRules
  pub indexes_reference : Bool

-- the rules that the program holds, if there are any, as their texts
abbrev pub own_rules : Option declared_rules.Rules → Option WordRules
own_rules rules = option_map (λ held. record {
  stored = bytes_of held.stored.items;
  longest = held.longest;
  stems = held.stems;
}) rules

-- the settings that the program holds, as their texts
abbrev pub settings_told : declared.Settings → Settings
settings_told s = record {
  fields = option_map (λ names. bytes_of names.items) s.fields;
  reference = option_map string_bytes s.reference;
  language = option_map string_bytes s.language;
  drops_texts = s.drops_texts;
  pretty = s.pretty;
  rules = own_rules s.rules;
  indexes_reference = s.indexes_reference;
}

-- fields, and after them those that the rules only store and that are not among them; the reference
-- is stored anyway
abbrev pub with_stored : Option WordRules → (reference_field : Bytes) → List Bytes → List Bytes
with_stored None reference_field fields = fields
with_stored (Some rules) reference_field fields = fields ++ filter
    (λ name. not (has_name name (reference_field ∷ fields))) rules.stored

-- the fields of a job with the settings
abbrev pub job_fields : Settings → Job → List Bytes
job_fields settings job = with_stored settings.rules
    (unwrap_or settings.reference job.reference_field) (unwrap_or settings.fields job.fields)

-- the name under which the index of a job has the references
abbrev pub job_reference : Settings → Job → Bytes
job_reference settings job = reference_name settings.indexes_reference
    (unwrap_or settings.reference job.reference_field) (job_fields settings job)

-- each setting that is given stands instead of the job's
abbrev pub settled : Settings → Job → Job
settled settings job = record job {
  fields = job_fields settings job;
  reference_field = job_reference settings job;
  language = unwrap_or settings.language job.language;
  save = if settings.drops_texts then false else job.save;
  pretty = if settings.pretty then true else job.pretty;
}

-- this holds of the index of the job that a value is, with these settings
abbrev pub IsMadeWith : Settings → Data → OfIndex → Type 0
IsMadeWith settings d Is = (job : Job) × IsJob d job
    × IsMadeBy settings.rules (settled settings job) Is

-- the check that a value fails first: that it is a job, or one of the job with these settings
abbrev pub IsRefusedWith : Settings → Data → Refusal → Type 0
IsRefusedWith settings d NotJson = ⊥
IsRefusedWith settings d NotAJob = IsNoJob d
IsRefusedWith settings d refusal = (job : Job) × IsJob d job
    × FailsAt (settled settings job) refusal
