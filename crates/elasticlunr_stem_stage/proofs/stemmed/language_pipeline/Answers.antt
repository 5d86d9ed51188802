use Rattle.std.proofs.Common.{◌≡◌, Some, true, false, sym, subst, ◌∙◌}
use Rattle.std.proofs.lemmas.Result.{IfOk-weaker}
use Rattle.elasticlunr_text.specs.Stages.{LeavesBy}
use Rattle.elasticlunr_lang.specs.Known.{language_leaves}
use Rattle.elasticlunr_stem_stage.specs.Stemmed.{StemmedLeaves, leaves_with, with_table}
use Rattle.elasticlunr_stem_stage.proofs.stemmed.language_pipeline.Goals as goal

pub returns-then-not-stems-clause-leaves : goal.returns-then-not-stems-clause-leaves
returns-then-not-stems-clause-leaves g c =
    let without : c.args.stems ≡ false = c.if-not-stems.true in
    subst (λ stems. LeavesBy (λ b. (goal.PipelineFn-dyn g b).leaves b.1) c.in_ok-pipeline.pipeline
    (leaves_with stems c.args.language)) (sym without) c.in_ok-pipeline.ensures.leaves

pub returns-in-Some-clause-leaves : goal.returns-in-Some-clause-leaves
returns-in-Some-clause-leaves g c =
    let language = c.args.language in
    let stems : c.args.stems ≡ true = c.if-not-stems.false in
    let table : with_table language ≡ Some c.in-Some.table = sym c.with_table.ensures ∙ c.in-Some.is in
    IfOk-weaker c.with_stemmer.result _ _
    (λ more leaves.
    subst (λ b. LeavesBy (λ b. (goal.PipelineFn-dyn g b).leaves b.1) more (leaves_with b language)) (sym stems)
    (subst (λ t. LeavesBy (λ b. (goal.PipelineFn-dyn g b).leaves b.1) more (StemmedLeaves t (language_leaves language)))
    (sym table) (leaves language c.in_ok-pipeline.ensures.leaves))) c.with_stemmer.ensures.leaves
