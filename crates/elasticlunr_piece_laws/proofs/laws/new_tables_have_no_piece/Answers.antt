use Rattle.elasticlunr_piece_laws.proofs.Added.{new_alone}
use Rattle.elasticlunr_piece_laws.proofs.laws.new_tables_have_no_piece.Goals as goal

pub returns : goal.returns
returns c = new_alone
