use Rattle.std.proofs.Common.{◌∙◌, subst, sym}
use Rattle.std.specs.Prelude.{IfOk}
use Rattle.elasticlunr_text.specs.Stages.{LeavesBy}
use Rattle.elasticlunr_lang.specs.Known.{language_leaves}
use Rattle.elasticlunr_stem_stage.specs.Stemmed.{StemmedLeaves}
use Rattle.elasticlunr_c_calls.proofs.language.InputLanguageLanguage.make_pipeline.Goals as goal

pub returns-in-Own-clause-leaves : goal.returns-in-Own-clause-leaves
returns-in-Own-clause-leaves g c = rw c.in-Own.is c.named_stages.ensures.leaves

pub returns-in-Some-clause-leaves : goal.returns-in-Some-clause-leaves
returns-in-Some-clause-leaves g c =
    let table = sym c.with_table.ensures ∙ c.in-Some.is in
    rw c.in-Stemmed.is (subst (λ t. IfOk c.make_pipeline-in-Some.result
    (λ pipeline. LeavesBy (λ z. (goal.PipelineFn-dyn g z).leaves z.1) pipeline
    (StemmedLeaves t (language_leaves c.in-Stemmed.language)))) (sym table) c.make_pipeline-in-Some.ensures.leaves)
