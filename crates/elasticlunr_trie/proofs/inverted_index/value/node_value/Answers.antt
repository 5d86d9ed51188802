use Rattle.std.proofs.Common.{ap, subst, ◌∙◌, codes}
use Rattle.serde_json.specs.View.{members_view, view}
use Rattle.serde_json.specs.Data.{put, object, number, unsigned}
use Rattle.serde_json.proofs.Views.{view-Object}
use Rattle.elasticlunr_trie.specs.Tree.{HasKeysInOrder}
use Rattle.elasticlunr_trie.proofs.Finishing.{made_node, ordered_members}
use Rattle.elasticlunr_trie.proofs.inverted_index.value.node_value.Goals as goal

pub returns-clause-node : goal.returns-clause-node
returns-clause-node c =
    let first = members_view c.put_children.new.members.entries in
    let two = c.in_ok-set_member.ensures.put in
    let whole = c.in_ok-set_member-2.ensures.put ∙ (λ i. put (codes "df") (c.from.ensures i) (two i)) in
    let order = subst HasKeysInOrder whole (ordered_members c.set_member-2.new.members.entries
    c.in_ok-set_member-2.ensures.ordered) in (
      put (codes "df") (number (unsigned c.args.df)) (put (codes "docs") (view c.args.docs) first),
      view-Object c.set_member-2.new.members ∙ ap object whole,
      made_node c.args.children.now c.args.finished.now (view c.args.docs) c.args.df first
          c.in_ok-put_children.ensures.put order,
    )
