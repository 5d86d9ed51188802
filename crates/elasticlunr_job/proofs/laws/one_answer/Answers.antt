use Rattle.elasticlunr_job.proofs.laws.one_answer.Goals as goal
use Rattle.elasticlunr_job.proofs.OneAnswer.{one_outcome, one_text}

pub returns-clause-outcome : goal.returns-clause-outcome
returns-clause-outcome c = one_outcome

pub returns-clause-text : goal.returns-clause-text
returns-clause-text c = one_text c.settings_and_commands_have_one_value.ensures
    (λ fields reference_field language. c.a_kept_language_makes_one_document.ensures.document language fields
    reference_field)
