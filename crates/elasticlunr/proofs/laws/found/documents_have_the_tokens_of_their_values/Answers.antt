use Rattle.elasticlunr.proofs.ReadDocuments.{current_read, read_token}
use Rattle.elasticlunr.proofs.laws.found.documents_have_the_tokens_of_their_values.Goals as goal

pub returns-clause-current : goal.returns-clause-current
returns-clause-current g c = λ language fields reference_field commands r are. current_read _ fields reference_field
    commands are r

pub returns-clause-tokens : goal.returns-clause-tokens
returns-clause-tokens g c = λ language fields reference_field commands i r token are. read_token _ fields
    reference_field commands are i r token
