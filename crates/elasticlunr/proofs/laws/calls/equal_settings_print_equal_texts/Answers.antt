use Rattle.std.proofs.Common.{subst}
use Rattle.elasticlunr_print.specs.Printed.{IsTextAfter}
use Rattle.elasticlunr.proofs.Calling.{commands_more, document_alike, one_commands, one_text, plan_alike}
use Rattle.elasticlunr.proofs.laws.calls.equal_settings_print_equal_texts.Goals as goal

pub returns-clause-documents : goal.returns-clause-documents
returns-clause-documents g c = document_alike g.L.Language.tokens_of (λ z. (goal.PipelineFn-dyn g z).leaves z.1)
    c.args.index.now c.args.other.now

pub returns-clause-commands : goal.returns-clause-commands
returns-clause-commands g c = λ same calls left right one also.
    one_commands _ c.an_index_makes_one_document.ensures.document calls left right one
    (commands_more _ _ (returns-clause-documents g c same) calls right also)

pub returns-clause-texts : goal.returns-clause-texts
returns-clause-texts g c = λ same calls left right text_of text another one also first second.
    one_text c.settings_and_commands_have_one_value.ensures text_of _ left right text another
    (returns-clause-commands g c same calls left right one also) first
    (subst (λ plan. IsTextAfter text_of plan right another)
    (plan_alike g.L.Language.name_of (λ z. (goal.PipelineFn-dyn g z).name_text z.1) c.args.index.now
    c.args.other.now same) second)
