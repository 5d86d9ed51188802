use Rattle.elasticlunr_piece_laws.proofs.Told.{head_told}
use Rattle.elasticlunr_piece_laws.proofs.laws.a_head_tells_its_index.Goals as goal

pub returns : goal.returns
returns c = head_told
