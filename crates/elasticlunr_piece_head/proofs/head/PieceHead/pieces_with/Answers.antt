use Rattle.elasticlunr_piece_head.proofs.head.PieceHead.pieces_with.Goals as goal

pub returns : goal.returns
returns c = rw c.deref.ensures.value at c.range_for.ensures
