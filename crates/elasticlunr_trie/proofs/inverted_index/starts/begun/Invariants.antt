use Rattle.std.proofs.Common.{◌≡◌, ◌++◌, map, All, drop}
use Rattle.elasticlunr_trie_nodes.specs.Table.{told_tokens}
use Rattle.elasticlunr_trie_nodes.specs.Trie.{step_of}
use Rattle.elasticlunr_trie_nodes.specs.Starts.{IsStart, told}
use Rattle.elasticlunr_trie.proofs.inverted_index.starts.begun.Given as goal

-- the tokens from here on come after those that have a start
abbrev pub invariant-loop-token : goal.invariant-loop-token
invariant-loop-token l =
    All (IsStart (step_of l.root l.nodes)) l.starts.items
    × (map told l.starts.items ++ told_tokens (drop l.token-index l.tokens) ≡ told_tokens l.tokens)
