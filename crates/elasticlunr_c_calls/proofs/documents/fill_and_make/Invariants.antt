use Rattle.std.proofs.Common.{map, take}
use Rattle.elasticlunr.specs.Index.{fields_of, IsDocumentWithTokens, IsFailed, SameSettings, StandsFor}
use Rattle.elasticlunr.specs.Words.{words}
use Rattle.elasticlunr_flat.specs.Told.{document_told}
use Rattle.elasticlunr_c_calls.specs.Indexes.{Fits}
use Rattle.elasticlunr_c_calls.specs.Languages.{name_in}
use Rattle.elasticlunr_c_calls.proofs.Filling.{HasTaken}
use Rattle.elasticlunr_c_calls.proofs.documents.fill_and_make.Given as goal

-- the documents so far are added
abbrev pub invariant-loop-document : goal.invariant-loop-document
invariant-loop-document g l = record {
  taken : HasTaken (IsDocumentWithTokens (λ _. words) (λ z. (goal.PipelineFn-dyn g z).leaves z.1) l.fn.index)
      (StandsFor name_in (λ z. (goal.PipelineFn-dyn g z).name_text z.1) l.fn.index)
      (StandsFor name_in (λ z. (goal.PipelineFn-dyn g z).name_text z.1) l.index)
      (map document_told (take l.document-index l.document-items));
  settings : SameSettings l.fn.index l.index;
  fits : Fits (fields_of l.fn.index) (map document_told (take l.document-index l.document-items));
  works : ¬ IsFailed l.fn.index → ¬ IsFailed l.index;
}
