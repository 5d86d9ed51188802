use Rattle.std.proofs.Common.{[], get_or}
use Rattle.elasticlunr_pieces.specs.Entries.{references}
use Rattle.elasticlunr_piece_laws.proofs.Added.{piece_added, piece_more}
use Rattle.elasticlunr_piece_laws.proofs.Whole.{members_told, token_not_empty}
use Rattle.elasticlunr_piece_laws.proofs.laws.a_piece_adds_its_postings.Goals as goal

pub returns : goal.returns
returns c parts field size tries texts titles a whole number lt entries is numbers old new have added =
    let tables = parts.tries.now in
    let set = piece_added (references parts.store.now) tables whole.numbers entries (get_or tries number []) old new
    have.many (members_told _ _ is) (token_not_empty parts field size tries texts titles a whole number lt) added in
    piece_more tries numbers number tables old new have set.0 set.1
