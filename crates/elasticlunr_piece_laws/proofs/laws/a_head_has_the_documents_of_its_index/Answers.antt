use Rattle.elasticlunr_piece_laws.proofs.Documents.{as_many, same_lengths}
use Rattle.elasticlunr_piece_laws.proofs.laws.a_head_has_the_documents_of_its_index.Goals as goal

pub returns-clause-documents : goal.returns-clause-documents
returns-clause-documents c = as_many

pub returns-clause-lengths : goal.returns-clause-lengths
returns-clause-lengths c = same_lengths
