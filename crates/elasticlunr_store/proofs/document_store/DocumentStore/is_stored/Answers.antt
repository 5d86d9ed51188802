use Rattle.std.proofs.Common.{rules}
use Rattle.elasticlunr_store.proofs.document_store.DocumentStore.is_stored.Goals as goal

pub returns : goal.returns
returns c = search rules
