use Rattle.std.proofs.Common.{◌<◌, ℕ, length, map, get_or, sym, subst, ◌∙◌, arith, string_bytes}
use Rattle.std.specs.List.{zip}
use Rattle.std.specs.Prelude.{Contains}
use Rattle.std.specs.Str.{chars}
use Rattle.elasticlunr_error.specs.Text.{Bytes}
use Rattle.elasticlunr_piece_head.specs.Choice.{IsNeededForOne}
use Rattle.elasticlunr_ranking.specs.Choice.{fields_for}
use Rattle.elasticlunr_ranking.specs.Order.{AreRanked}
use Rattle.elasticlunr_pieces.specs.Entries.{IsTokenOf}
use Rattle.elasticlunr_pieces.specs.Head.{firsts}
use Rattle.elasticlunr_pieces.specs.Standing.{IsLastNotAbove, StandsIn}
use Rattle.elasticlunr_trie.specs.Table.{Table}
use Rattle.elasticlunr_piece_laws.specs.Alike.{CanStandFor}
use Rattle.elasticlunr_piece_laws.proofs.Chosen.{HaveSame, asked_at, chosen_alike, zipped}
use Rattle.elasticlunr_piece_laws.proofs.Documents.{as_many, same_lengths}
use Rattle.elasticlunr_piece_laws.proofs.Enough.{same_postings}
use Rattle.elasticlunr_piece_laws.proofs.Ranking.{rank_alike}
use Rattle.elasticlunr_piece_laws.proofs.Whole.{characters}
use Rattle.elasticlunr_piece_laws.proofs.laws.pieces_rank_as_the_whole.Goals as goal

pub returns : goal.returns
returns c parts field size tries texts titles a whole head is options leave asked are_texts numbers needed others have
    contents documents hits =
    let tables = parts.tries.now in
    let fields = map string_bytes parts.fields.now in
    let tokens = map chars asked in
    let standing : (token : Bytes) → IsTokenOf tables token
    → (n : ℕ) × StandsIn tries token n × IsLastNotAbove (firsts tries) token n = λ token of.
    let place = c.tokens_stand_where_the_head_says.ensures parts field size tries texts titles a token of in
    (place.0, place.1, place.2) in
    let needed_too : (n : ℕ) → IsNeededForOne (firsts tries) options.expand asked n → Contains numbers n = λ n need.
    needed n (subst (λ tops. IsNeededForOne tops options.expand asked n) (sym is.first_tokens) need) in
    let same : (i : ℕ) (d : Table) → i < length tables
    → HaveSame options.expand tokens (get_or others i d) (get_or tables i d) = λ i d lt token word listed stands.
    let at = asked_at token asked listed in
    same_postings tables others tries numbers (characters parts whole) standing have options.expand asked needed_too
    at.0 at.1 (are_texts at.0 at.1) word (subst (λ t. CanStandFor options.expand t word) (sym at.2) stands) i d lt in
    let many = have.many in
    let alike = chosen_alike options contents parts.store.now tokens leave
    (documents.documents ∙ as_many parts tries head is) fields others tables
    (λ r name listed. documents.lengths r name ∙ same_lengths parts tries head is r name listed)
    (zipped (HaveSame options.expand tokens) others tables (sym many)
    (λ i d lt. same i d (omega (arith, lt, many)))) in
    let ranks = rank_alike tokens (fields_for options contents (zip fields others))
    (fields_for options parts.store.now (zip fields tables)) hits alike in
    subst (λ names. (AreRanked (fields_for options contents (zip names others)) tokens hits
    → AreRanked (fields_for options parts.store.now (zip fields tables)) tokens hits)
    × (AreRanked (fields_for options parts.store.now (zip fields tables)) tokens hits
    → AreRanked (fields_for options contents (zip names others)) tokens hits)) (sym is.fields) ranks
