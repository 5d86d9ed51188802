-- the pieces so far are files of the index
use Rattle.elasticlunr_in_pieces.proofs.Making.{SoFar, left_of}
use Rattle.elasticlunr_in_pieces.proofs.all.in_pieces.Given as goal

abbrev pub invariant-loop-pieces : goal.invariant-loop-pieces
invariant-loop-pieces l = SoFar l.fn.parts l.fn.title l.fn.size l.making l.pieces.items

abbrev pub decreases-loop-pieces : goal.decreases-loop-pieces
decreases-loop-pieces l = left_of l.making
