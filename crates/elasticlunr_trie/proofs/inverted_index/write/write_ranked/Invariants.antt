use Rattle.std.proofs.Common.{◌≡◌, ◌++◌, drop}
use Rattle.elasticlunr_trie_nodes.specs.Names.{under_names}
use Rattle.elasticlunr_trie.specs.Tree.{frequencies}
use Rattle.elasticlunr_json.specs.Tokens.{tokens_of}
use Rattle.elasticlunr_trie_nodes.proofs.Ranked.{behind}
use Rattle.elasticlunr_trie.proofs.inverted_index.write.write_ranked.Given as goal

-- what was written, and the postings that are left
abbrev pub invariant-loop-number : goal.invariant-loop-number
invariant-loop-number g l =
    g.W.Tokens.written l.out ++ tokens_of (frequencies (under_names l.names (behind (drop l.number-index l.ranked))))
    ≡ g.W.Tokens.written l.initial.out ++ tokens_of (frequencies (under_names l.names (behind l.ranked)))
