use Rattle.elasticlunr_error.specs.Text.{bytes_of}
use Rattle.elasticlunr_piece_search.proofs.Entering.{Entering}
use Rattle.elasticlunr_piece_search.proofs.postings.add_entries.Given as goal

-- what was added so far, and what is left
abbrev pub invariant-loop-token : goal.invariant-loop-token
invariant-loop-token l = Entering (bytes_of l.references) l.piece.entries l.token-iterator l.initial.tries l.tries
