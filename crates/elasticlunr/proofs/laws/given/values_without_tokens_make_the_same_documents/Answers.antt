use Rattle.elasticlunr.proofs.GivenTokens.{same_without_tokens}
use Rattle.elasticlunr.proofs.laws.given.values_without_tokens_make_the_same_documents.Goals as goal

pub returns : goal.returns
returns g c = λ reference values document all. same_without_tokens _ _ _ _ reference values document all
