use Rattle.elasticlunr_pieces.specs.Pieces.{tokens_text}
use Rattle.elasticlunr_pieces.proofs.Standing.{between, groups_rise}
use Rattle.elasticlunr_pieces.proofs.laws.tokens_with_one_beginning_are_neighbours.Goals as goal

pub returns : goal.returns
returns c parts field size tries texts titles a beginning first token last l m n in_l in_m in_n before behind =
    let rise = groups_rise (tokens_text parts) size in
    between beginning first token last
    (rise first token tries a.tokens l m a.tries_cut a.are_tokens.order in_l in_m before)
    (rise token last tries a.tokens m n a.tries_cut a.are_tokens.order in_m in_n behind)
