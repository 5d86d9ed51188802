use Rattle.std.proofs.Common.{All}
use Rattle.elasticlunr_trie_nodes.specs.Trie.{Step}
use Rattle.elasticlunr_trie.specs.TokenCache.{IsEnd}
use Rattle.elasticlunr_trie.proofs.inverted_index.ends.twice_as_many.Given as goal

-- what is in more slots is right, where what is in the first ones is
abbrev pub invariant-loop-end : goal.invariant-loop-end
invariant-loop-end l = (step : Step) → All (IsEnd step) l.slots → All (IsEnd step) l.more.items
