use Rattle.elasticlunr.proofs.Calling.{one_commands, one_text}
use Rattle.elasticlunr.proofs.laws.calls.kept_languages_print_equal_texts.Goals as goal

pub returns-clause-commands : goal.returns-clause-commands
returns-clause-commands c = λ language fields reference_field. one_commands _
    (c.a_kept_language_makes_one_document.ensures.document language fields reference_field)

pub returns-clause-texts : goal.returns-clause-texts
returns-clause-texts c = λ language plan calls left right text_of text another one also.
    one_text c.settings_and_commands_have_one_value.ensures text_of plan left right text another
    (returns-clause-commands c language plan.fields plan.reference_field calls left right one also)
