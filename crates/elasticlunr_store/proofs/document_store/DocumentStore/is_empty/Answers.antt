use Rattle.std.proofs.Common.{rules}
use Rattle.elasticlunr_store.proofs.document_store.DocumentStore.is_empty.Goals as goal

pub returns : goal.returns
returns c = search rules
