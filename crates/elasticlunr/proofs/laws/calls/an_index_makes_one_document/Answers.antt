use Rattle.elasticlunr.proofs.Calling.{one_document, one_made, one_reading}
use Rattle.elasticlunr.proofs.laws.calls.an_index_makes_one_document.Goals as goal

pub returns-clause-reading : goal.returns-clause-reading
returns-clause-reading g c = one_reading _ _ _ _ one_made
    (λ made tokens others. c.a_run_has_one_answer.ensures made tokens others)

pub returns-clause-document : goal.returns-clause-document
returns-clause-document g c = one_document _ _ _ (returns-clause-reading g c)
