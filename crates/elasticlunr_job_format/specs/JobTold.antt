-- A job of `src/`, as its texts.
use Rattle.std.specs.Prelude.{map}
use Rattle.elasticlunr_job_format.specs.Job as spec
use Rattle.elasticlunr_job_format.specs.declared.job.Document.{Document}
use Rattle.elasticlunr_job_format.specs.declared.job.Job.{Job}

abbrev pub document_told : Document → spec.Document
document_told doc = record {
  reference = doc.reference.now;
  values = map (λ s. s.now)
      doc.values.items;
}

abbrev pub job_told : Job → spec.Job
job_told job = record {
  fields = map (λ s. s.now) job.fields.items;
  docs = map document_told job.docs.items;
  reference_field = job.reference_field.now;
  save = job.save;
  language = job.language.now;
  pretty = job.pretty;
  remove = map (λ s. s.now) job.remove.items;
  compact = job.compact;
}
