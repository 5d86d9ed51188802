use Rattle.elasticlunr.proofs.Current.{current_text}
use Rattle.elasticlunr.proofs.laws.current.current_documents_decide_the_text.Goals as goal

pub returns : goal.returns
returns c = λ calls others only also same language plan text_of text another one other.
    current_text _ plan (c.a_kept_language_makes_one_document.ensures.document language plan.fields
    plan.reference_field) c.agreeing_commands_have_equal_values.ensures text_of calls others text another only
    also same one other
