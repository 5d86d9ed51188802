use Rattle.elasticlunr_error.specs.Text.{bytes_of}
use Rattle.elasticlunr_piece_search.proofs.Adding.{Adding}
use Rattle.elasticlunr_piece_search.proofs.postings.add_lists.Given as goal

-- the first lists were added
abbrev pub invariant-loop-place : goal.invariant-loop-place
invariant-loop-place l = Adding (bytes_of l.references) l.token l.values l.initial.tries l.tries l.place
