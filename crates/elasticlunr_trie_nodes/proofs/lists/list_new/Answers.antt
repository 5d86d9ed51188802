use Rattle.elasticlunr_trie_nodes.proofs.Listed.{lists_kept, node_listed}
use Rattle.elasticlunr_trie_nodes.proofs.lists.list_new.Goals as goal

pub returns-clause-lists : goal.returns-clause-lists
returns-clause-lists c = node_listed c.args.references.now.items _ _ c.args.number c.args.k c.make_lists.ensures.same
    c.push_node.ensures.others c.push_node.result c.push_node.ensures.ok

pub returns-clause-keeps : goal.returns-clause-keeps
returns-clause-keeps c = lists_kept c.args.references.now.items _ _ c.args.number c.args.k c.make_lists.ensures.same
    c.push_node.ensures.others c.push_node.result c.push_node.ensures.ok c.push_node.ensures.err
