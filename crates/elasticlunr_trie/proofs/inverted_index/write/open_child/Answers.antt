use Rattle.std.proofs.Common.{ap, ◌∙◌, ◌++◌}
use Rattle.std.specs.List.{slice_get}
use Rattle.elasticlunr_trie_nodes.specs.Nodes.{entries_of}
use Rattle.elasticlunr_trie_nodes.specs.Trie.{named}
use Rattle.elasticlunr_trie.specs.Printed.{place_members, node_members, node_tree, stack_tokens}
use Rattle.elasticlunr_json.specs.Tokens.{tokens_of}
use Rattle.elasticlunr_trie.proofs.Printing.{stack_push}
use Rattle.elasticlunr_trie.proofs.inverted_index.write.open_child.Goals as goal

pub returns-clause-left : goal.returns-clause-left
returns-clause-left g c names =
    let nodes = c.args.nodes.now in
    let old = c.args.stack.now.items in
    ap (stack_tokens names nodes) c.in_ok-push.ensures.items ∙ stack_push names nodes old _
    ∙ ap (λ es. tokens_of (place_members (node_tree names nodes)
    (named names (entries_of (slice_get nodes c.node-k.result))) es) ++ stack_tokens names nodes old)
    c.children_of.ensures
    ∙ ap (λ n. tokens_of (node_members names nodes n) ++ stack_tokens names nodes old) c.node-k.ensures
