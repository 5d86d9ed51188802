use Rattle.std.proofs.Common.{◌<◌, length}
use Rattle.elasticlunr_search.proofs.walk.Walk.read.Given as goal

abbrev pub invariant-trie : goal.invariant-trie
invariant-trie l = length l.reader < length l.fn.reader

abbrev pub decreases-trie : goal.decreases-trie
decreases-trie l = length l.reader
