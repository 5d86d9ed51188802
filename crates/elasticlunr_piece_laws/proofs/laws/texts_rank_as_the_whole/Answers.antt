use Rattle.elasticlunr_piece_laws.proofs.ReadPieces.{have_added, head_says}
use Rattle.elasticlunr_piece_laws.proofs.laws.texts_rank_as_the_whole.Goals as goal

pub returns : goal.returns
returns c parts field size tries texts titles a whole small printed is_head head says options leave asked are_texts numbers
    needed others added contents documents hits =
    let is = head_says parts field size tries texts titles a whole small printed is_head head says in
    let have = have_added parts field size tries texts titles a whole small head is numbers others added in
    c.pieces_rank_as_the_whole.ensures parts field size tries texts titles a whole head is options leave asked are_texts
    numbers needed others have contents documents hits
