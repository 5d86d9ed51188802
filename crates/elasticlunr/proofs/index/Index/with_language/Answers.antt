use Rattle.std.proofs.Common.{◌≡◌, List, Option, ap, ◌∙◌}
use Rattle.std.proofs.lemmas.Result.{IfOk-from_err}
use Rattle.elasticlunr_text.specs.Text.{Bytes}
use Rattle.elasticlunr.specs.Choices.{Choices, beginning, with_fields, HasOnlyFields, IsBuiltBy}
use Rattle.elasticlunr.proofs.After.{new_after, plan_of_fields}
use Rattle.elasticlunr.proofs.Choosing.{reads_by_language}
use Rattle.elasticlunr.proofs.Holding.{if_ok, both_ok}
use Rattle.elasticlunr.proofs.index.Index.with_language.Goals as goal

-- what is built of a language and fields alone
only_fields : {L P T : Type 0} (names : List Bytes) (language : L) (given : Choices L (Option P) T)
    (built : Choices L P T) → given ≡ with_fields names (beginning language) → IsBuiltBy given built
    → HasOnlyFields language names built
only_fields names language given built same is = record {
  its_language = is.language ∙ ap (λ c. c.language) same;
  fields = is.fields ∙ ap (λ c. c.fields) same;
  tokenizers = is.tokenizers ∙ ap (λ c. c.tokenizers) same;
  reference_field = is.reference_field ∙ ap (λ c. c.reference_field) same;
  save = is.save ∙ ap (λ c. c.save) same;
}

pub returns-clause-given : goal.returns-clause-given
returns-clause-given g c = if_ok c.build.result _ _
    (λ index. only_fields _ c.args.lang _ _ (c.in_ok-add_fields.ensures.chosen
    ∙ ap (with_fields _) c.in_ok-builder.ensures.chosen)) c.build.ensures.given

pub returns-clause-plan : goal.returns-clause-plan
returns-clause-plan g c = if_ok c.build.result _ _
    (λ index. plan_of_fields g.L.Language.name_of g.L.Language.stages_of c.args.lang _ _ _
    (c.in_ok-add_fields.ensures.chosen ∙ ap (with_fields _) c.in_ok-builder.ensures.chosen)) c.build.ensures.plan

pub returns-clause-reads : goal.returns-clause-reads
returns-clause-reads g c = if_ok c.build.result _ _
    (λ index. reads_by_language _ _ c.args.lang g.L.Language.tokens_of g.L.Language.leaves_of _
    (c.in_ok-add_fields.ensures.chosen ∙ ap (with_fields _) c.in_ok-builder.ensures.chosen)) c.build.ensures.reads

pub returns-clause-after : goal.returns-clause-after
returns-clause-after g c = if_ok c.build.result _ _
    (λ index is. new_after _ _ _ _ _ c.args.lang _ _
    (plan_of_fields g.L.Language.name_of g.L.Language.stages_of c.args.lang _ _ _ (c.in_ok-add_fields.ensures.chosen
    ∙ ap (with_fields _) c.in_ok-builder.ensures.chosen) is.0)
    is.1.0 is.1.1)
    (both_ok _ _ _ c.build.ensures.plan (both_ok _ _ _ (returns-clause-reads g c) c.build.ensures.empty))

pub returns-in_err-builder-clause-differ : goal.returns-in_err-builder-clause-differ
returns-in_err-builder-clause-differ g c = IfOk-from_err c.from_residual.result _ c.from_residual.ensures.0

pub returns-in_err-builder-clause-empty : goal.returns-in_err-builder-clause-empty
returns-in_err-builder-clause-empty g c = IfOk-from_err c.from_residual.result _ c.from_residual.ensures.0

pub returns-in_err-builder-clause-given : goal.returns-in_err-builder-clause-given
returns-in_err-builder-clause-given g c = IfOk-from_err c.from_residual.result _ c.from_residual.ensures.0

pub returns-in_err-builder-clause-plan : goal.returns-in_err-builder-clause-plan
returns-in_err-builder-clause-plan g c = IfOk-from_err c.from_residual.result _ c.from_residual.ensures.0

pub returns-in_err-builder-clause-kept : goal.returns-in_err-builder-clause-kept
returns-in_err-builder-clause-kept g c = IfOk-from_err c.from_residual.result _ c.from_residual.ensures.0

pub returns-in_err-builder-clause-leaves : goal.returns-in_err-builder-clause-leaves
returns-in_err-builder-clause-leaves g c = IfOk-from_err c.from_residual.result _ c.from_residual.ensures.0

pub returns-in_err-builder-clause-reads : goal.returns-in_err-builder-clause-reads
returns-in_err-builder-clause-reads g c = IfOk-from_err c.from_residual.result _ c.from_residual.ensures.0

pub returns-in_err-builder-clause-after : goal.returns-in_err-builder-clause-after
returns-in_err-builder-clause-after g c = IfOk-from_err c.from_residual.result _ c.from_residual.ensures.0

pub returns-in_err-add_fields-clause-differ : goal.returns-in_err-add_fields-clause-differ
returns-in_err-add_fields-clause-differ g c = IfOk-from_err c.from_residual-in_err-add_fields.result _
    c.from_residual-in_err-add_fields.ensures.0

pub returns-in_err-add_fields-clause-empty : goal.returns-in_err-add_fields-clause-empty
returns-in_err-add_fields-clause-empty g c = IfOk-from_err c.from_residual-in_err-add_fields.result _
    c.from_residual-in_err-add_fields.ensures.0

pub returns-in_err-add_fields-clause-given : goal.returns-in_err-add_fields-clause-given
returns-in_err-add_fields-clause-given g c = IfOk-from_err c.from_residual-in_err-add_fields.result _
    c.from_residual-in_err-add_fields.ensures.0

pub returns-in_err-add_fields-clause-plan : goal.returns-in_err-add_fields-clause-plan
returns-in_err-add_fields-clause-plan g c = IfOk-from_err c.from_residual-in_err-add_fields.result _
    c.from_residual-in_err-add_fields.ensures.0

pub returns-in_err-add_fields-clause-kept : goal.returns-in_err-add_fields-clause-kept
returns-in_err-add_fields-clause-kept g c = IfOk-from_err c.from_residual-in_err-add_fields.result _
    c.from_residual-in_err-add_fields.ensures.0

pub returns-in_err-add_fields-clause-leaves : goal.returns-in_err-add_fields-clause-leaves
returns-in_err-add_fields-clause-leaves g c = IfOk-from_err c.from_residual-in_err-add_fields.result _
    c.from_residual-in_err-add_fields.ensures.0

pub returns-in_err-add_fields-clause-reads : goal.returns-in_err-add_fields-clause-reads
returns-in_err-add_fields-clause-reads g c = IfOk-from_err c.from_residual-in_err-add_fields.result _
    c.from_residual-in_err-add_fields.ensures.0

pub returns-in_err-add_fields-clause-after : goal.returns-in_err-add_fields-clause-after
returns-in_err-add_fields-clause-after g c = IfOk-from_err c.from_residual-in_err-add_fields.result _
    c.from_residual-in_err-add_fields.ensures.0
