use Rattle.std.proofs.Common.{map, take}
use Rattle.elasticlunr.specs.History.{remove}
use Rattle.elasticlunr.specs.Index.{fields_of, IsFailed, SameSettings, StandsFor}
use Rattle.elasticlunr_lang.specs.Known.{language_name}
use Rattle.elasticlunr_job.specs.Commands.{language_tokens}
use Rattle.elasticlunr_job.specs.Filled.{Fits, IsMadeUnder}
use Rattle.elasticlunr_job.proofs.Taken.{Follows, HasTaken}
use Rattle.elasticlunr_job_format.specs.JobTold.{document_told, job_told}
use Rattle.elasticlunr_job_format.specs.Rules.{given_rules}
use Rattle.elasticlunr_job.proofs.answer.fill_and_make.Given as goal

-- the documents so far are added
abbrev pub invariant-loop-doc : goal.invariant-loop-doc
invariant-loop-doc g l = record {
  taken : HasTaken (IsMadeUnder (given_rules l.fn.rules) (job_told l.fn.job).fields language_tokens
      (λ z. (goal.PipelineFn-dyn g z).leaves z.1) l.fn.index)
      (StandsFor language_name (λ z. (goal.PipelineFn-dyn g z).name_text z.1) l.fn.index)
      (StandsFor language_name (λ z. (goal.PipelineFn-dyn g z).name_text z.1) l.index)
      (map document_told (take l.doc-index l.doc-items));
  settings : SameSettings l.fn.index l.index;
  fits : Fits (fields_of l.fn.index) (map document_told (take l.doc-index l.doc-items));
  works : ¬ IsFailed l.fn.index → ¬ IsFailed l.index;
}

-- the references so far are removed
abbrev pub invariant-loop-reference : goal.invariant-loop-reference
invariant-loop-reference g l = record {
  follows : Follows (StandsFor language_name (λ z. (goal.PipelineFn-dyn g z).name_text z.1) l.initial.index)
      (StandsFor language_name (λ z. (goal.PipelineFn-dyn g z).name_text z.1) l.index)
      (map remove (map (λ s. s.now) (take l.reference-index l.reference-items)));
  settings : SameSettings l.fn.index l.index;
  works : ¬ IsFailed l.fn.index → ¬ IsFailed l.index;
}
