use Rattle.std.proofs.Common.{true≢false}
use Rattle.elasticlunr.proofs.index.Index.document_store.Goals as goal

pub returns-in-Some-clause-failed : goal.returns-in-Some-clause-failed
returns-in-Some-clause-failed g c = (λ same. absurd (cc), λ none. absurd (true≢false (rw c.in-Some.is at none)))
