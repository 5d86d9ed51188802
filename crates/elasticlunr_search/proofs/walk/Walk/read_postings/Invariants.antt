use Rattle.std.proofs.Common.{◌<◌, length}
use Rattle.elasticlunr_search.proofs.walk.Walk.read_postings.Given as goal

abbrev pub invariant-postings : goal.invariant-postings
invariant-postings l = length l.reader < length l.fn.reader

abbrev pub decreases-postings : goal.decreases-postings
decreases-postings l = length l.reader
