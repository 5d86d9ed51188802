use Rattle.std.proofs.Common.{◌≡◌, map, All}
use Rattle.elasticlunr_trie_nodes.specs.Table.{told_tokens}
use Rattle.elasticlunr_trie_nodes.specs.Trie.{step_of}
use Rattle.elasticlunr_trie_nodes.specs.Starts.{IsStart, told}
use Rattle.elasticlunr_trie.proofs.inverted_index.starts.walked_tokens.Given as goal

abbrev pub invariant-loop : goal.invariant-loop
invariant-loop l = All (IsStart (step_of l.root l.nodes)) l.starts.items
    × (map told l.starts.items ≡ told_tokens l.tokens)
