use Rattle.std.proofs.Common.{[], get_or}
use Rattle.elasticlunr_pieces.specs.Entries.{references}
use Rattle.elasticlunr_pieces.specs.Pieces.{tokens_text}
use Rattle.elasticlunr_piece_texts.proofs.PlainPieces.{group_sorted, piece_read}
use Rattle.elasticlunr_piece_texts.proofs.laws.pieces_are_read.Goals as goal

pub returns : goal.returns
returns c parts field size tries texts titles a small n lt = piece_read (references parts.store.now) small.references
    parts.tries.now small.are_tables (get_or tries n [])
    (group_sorted (tokens_text parts) size tries a.tokens n a.tries_cut a.are_tokens.order lt)
