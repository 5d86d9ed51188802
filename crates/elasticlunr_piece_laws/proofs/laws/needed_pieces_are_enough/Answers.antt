use Rattle.elasticlunr_piece_laws.proofs.Enough.{same_postings}
use Rattle.elasticlunr_piece_laws.proofs.Whole.{characters}
use Rattle.elasticlunr_piece_laws.proofs.laws.needed_pieces_are_enough.Goals as goal

pub returns : goal.returns
returns c parts field size tries texts titles a whole expand asked numbers needed others have =
    same_postings parts.tries.now others tries numbers (characters parts whole)
    (λ token is. let place = c.tokens_stand_where_the_head_says.ensures parts field size tries texts titles a token is
    in (place.0, place.1, place.2)) have expand asked needed
