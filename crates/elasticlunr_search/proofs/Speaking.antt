-- A searcher speaks the language whose pipeline it was given.
use Rattle.std.proofs.Common.{Option, sym, subst}
use Rattle.elasticlunr_text.specs.Stages.{LeavesBy}
use Rattle.elasticlunr_text.specs.Text.{Text}
use Rattle.elasticlunr_text.specs.declared.pipeline.run.Pipeline.{Pipeline}
use Rattle.elasticlunr_search.specs.Standing.{IsChosen, Speaks}
use Rattle.elasticlunr_search.specs.declared.searcher.Searcher.{Searcher}

pub speaks_as_chosen : {L P X : Type 0} {O : X → Type 0} {p : _} (leaves_of : L → Text → Option Text → Type 0)
    (leaves : (v : X) × O v → Text → Option Text) (s : Searcher L P X O p) (language : L)
    (pipeline : Pipeline P X O p)
    → IsChosen s language pipeline → LeavesBy leaves pipeline (leaves_of language) → Speaks leaves_of leaves s language
speaks_as_chosen leaves_of leaves s language pipeline chosen stages = record {
  its_language = chosen.its_language;
  stages = subst (λ ps. LeavesBy leaves ps (leaves_of language)) (sym chosen.its_pipeline) stages;
}
