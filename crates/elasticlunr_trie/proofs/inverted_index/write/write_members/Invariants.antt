use Rattle.std.proofs.Common.{◌≡◌, ◌++◌, length}
use Rattle.std.specs.FinMap.{empty}
use Rattle.elasticlunr_trie_nodes.specs.Trie.{named}
use Rattle.elasticlunr_json.specs.Tokens.{tokens_of}
use Rattle.elasticlunr_trie.specs.Printed.{stack_tokens, place_members, node_tree}
use Rattle.elasticlunr_trie.proofs.inverted_index.write.write_members.Given as goal

-- what was written, and what is left
abbrev pub invariant-loop-left : goal.invariant-loop-left
invariant-loop-left g l =
    g.W.Tokens.written l.out ++ stack_tokens l.order.names.now l.nodes l.stack.items
    ≡ g.W.Tokens.written l.fn.out ++ tokens_of
    (place_members (node_tree l.order.names.now l.nodes) (named l.order.names.now empty) l.root)

abbrev pub decreases-loop-left : goal.decreases-loop-left
decreases-loop-left g l = length (stack_tokens l.order.names.now l.nodes l.stack.items)
