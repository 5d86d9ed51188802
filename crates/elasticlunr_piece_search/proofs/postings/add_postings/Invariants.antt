use Rattle.std.proofs.Common.{length}
use Rattle.elasticlunr_error.specs.Text.{bytes_of}
use Rattle.elasticlunr_piece_search.proofs.Reading.{Reading}
use Rattle.elasticlunr_piece_search.proofs.postings.add_postings.Given as goal

-- what was added so far, and what is left
abbrev pub invariant-postings : goal.invariant-postings
invariant-postings l = Reading (bytes_of l.references) l.token l.initial.rest l.rest l.initial.trie l.trie

abbrev pub decreases-postings : goal.decreases-postings
decreases-postings l = length l.rest
