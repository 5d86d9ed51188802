use Rattle.std.proofs.Common.{◌≡◌, take}
use Rattle.serde_json.specs.View.{members_view}
use Rattle.elasticlunr_trie_nodes.specs.Names.{under_names}
use Rattle.elasticlunr_trie.specs.Tree.{frequencies}
use Rattle.elasticlunr_trie_nodes.proofs.Ranked.{behind}
use Rattle.elasticlunr_trie.proofs.inverted_index.value.docs_value.Given as goal

-- a member for each posting so far
abbrev pub invariant-loop-number : goal.invariant-loop-number
invariant-loop-number l = members_view l.docs.entries
    ≡ frequencies (under_names l.names (behind (take l.number-index l.ranked)))
