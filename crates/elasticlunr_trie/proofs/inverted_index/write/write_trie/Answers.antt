use Rattle.std.proofs.Common.{refl, codes}
use Rattle.serde_json.specs.Data.{object, member, no_members}
use Rattle.std.specs.FinMap.{empty}
use Rattle.elasticlunr_trie_nodes.specs.Trie.{named}
use Rattle.elasticlunr_trie.specs.Printed.{place_members, node_tree}
use Rattle.elasticlunr_json.specs.Tokens.{tokens_of}
use Rattle.elasticlunr_trie.proofs.Printed.{has_trees, root_tree}
use Rattle.elasticlunr_json.proofs.Rows.{framed}
use Rattle.elasticlunr_trie.proofs.inverted_index.write.write_trie.Goals as goal

pub write_members-requires-clause-trees : goal.write_members-requires-clause-trees
write_members-requires-clause-trees g c = has_trees c.args.root.now c.args.nodes.now c.requires.trie
    c.args.order.names.now

pub returns : goal.returns
returns g c =
    let root = c.args.root.now in
    let nodes = c.args.nodes.now in
    let names = c.args.order.names.now in
    let ms = place_members (node_tree names nodes) (named names empty) root in (
      object (member (codes "root") (object ms) no_members),
      (object ms, refl, root_tree root nodes c.requires.trie names),
      framed (g.W.Tokens.written c.args.out.now) _ _ _ _ _ (tokens_of ms) _ _ _ _ c.in_ok-token.ensures
          c.in_ok-token-2.ensures c.in_ok-token-3.ensures c.in_ok-write_members.ensures c.in_ok-token-4.ensures,
    )
