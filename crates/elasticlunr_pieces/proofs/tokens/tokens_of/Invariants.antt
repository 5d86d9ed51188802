use Rattle.std.proofs.Common.{drop}
use Rattle.elasticlunr_pieces.proofs.Listed.{HasSoFar}
use Rattle.elasticlunr_pieces.proofs.tokens.tokens_of.Given as goal

abbrev pub invariant-loop-trie : goal.invariant-loop-trie
invariant-loop-trie l = HasSoFar l.all.items (drop l.trie-index l.tries) l.tries
