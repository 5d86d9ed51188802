use Rattle.elasticlunr_ranking.proofs.Finding.{hits_have}
use Rattle.elasticlunr_ranking.proofs.laws.hits_have_the_tokens.Goals as goal

pub returns : goal.returns
returns c = hits_have
