use Rattle.elasticlunr.proofs.ReadDocuments.{calls_read}
use Rattle.elasticlunr.proofs.laws.calls.documents_of_calls_are_read.Goals as goal

pub returns : goal.returns
returns g c = λ language fields reference_field calls commands were. calls_read _ fields reference_field calls commands
    were
