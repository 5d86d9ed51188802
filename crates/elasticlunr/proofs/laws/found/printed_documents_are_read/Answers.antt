use Rattle.elasticlunr.proofs.laws.found.printed_documents_are_read.Goals as goal

pub returns-clause-printed : goal.returns-clause-printed
returns-clause-printed g c = λ language text_of plan calls text printed. c.documents_of_calls_are_read.ensures language
    plan.fields plan.reference_field calls printed.commands printed.were

pub returns-clause-readable : goal.returns-clause-readable
returns-clause-readable g c = λ language plan calls text printed. c.documents_of_calls_are_read.ensures language
    plan.fields plan.reference_field calls printed.commands printed.were
