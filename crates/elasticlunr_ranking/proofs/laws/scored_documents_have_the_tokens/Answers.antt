use Rattle.elasticlunr_ranking.proofs.Finding.{scored_have}
use Rattle.elasticlunr_ranking.proofs.laws.scored_documents_have_the_tokens.Goals as goal

pub returns : goal.returns
returns c = scored_have
