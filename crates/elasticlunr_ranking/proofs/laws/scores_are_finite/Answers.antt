use Rattle.elasticlunr_ranking.proofs.Finite.{hits_finite}
use Rattle.elasticlunr_ranking.proofs.laws.scores_are_finite.Goals as goal

pub returns : goal.returns
returns c = hits_finite
