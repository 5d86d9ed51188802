use Rattle.elasticlunr_piece_laws.proofs.Ranking.{rank_alike}
use Rattle.elasticlunr_piece_laws.proofs.laws.fields_that_are_alike_rank_alike.Goals as goal

pub returns : goal.returns
returns c = rank_alike
