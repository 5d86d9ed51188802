use Rattle.elasticlunr_pieces.specs.Pieces.{tokens_text}
use Rattle.elasticlunr_pieces.proofs.Standing.{place_of}
use Rattle.elasticlunr_pieces.proofs.laws.tokens_stand_where_the_head_says.Goals as goal

pub returns : goal.returns
returns c parts field size tries texts titles a token is =
    let place = place_of (tokens_text parts) size token tries a.tokens a.tries_cut a.are_tokens.order
    ((a.are_tokens.all token).1 is) in
    (place.n, place.stands, place.named, place.alone)
