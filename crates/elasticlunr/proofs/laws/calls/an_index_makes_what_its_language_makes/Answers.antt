use Rattle.elasticlunr.proofs.Calling.{commands_more, document_more}
use Rattle.elasticlunr.proofs.laws.calls.an_index_makes_what_its_language_makes.Goals as goal

pub returns-clause-documents : goal.returns-clause-documents
returns-clause-documents g c = λ lang only. document_more _ _ _ _ only

pub returns-clause-commands : goal.returns-clause-commands
returns-clause-commands g c = λ lang only. commands_more _ _ (returns-clause-documents g c lang only)
