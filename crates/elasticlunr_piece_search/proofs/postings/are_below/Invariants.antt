use Rattle.std.proofs.Common.{Some}
use Rattle.std.specs.List.{AllByRecursion}
use Rattle.elasticlunr_piece_search.specs.Entries.{IsBelow, tokens_in}
use Rattle.elasticlunr_piece_search.proofs.postings.are_below.Given as goal

-- those that are left decide
abbrev pub invariant-loop-token : goal.invariant-loop-token
invariant-loop-token l =
    (AllByRecursion (IsBelow (Some l.limit)) (tokens_in l.token-iterator)
    → AllByRecursion (IsBelow (Some l.limit)) (tokens_in l.piece.entries))
    × (AllByRecursion (IsBelow (Some l.limit)) (tokens_in l.piece.entries)
    → AllByRecursion (IsBelow (Some l.limit)) (tokens_in l.token-iterator))
