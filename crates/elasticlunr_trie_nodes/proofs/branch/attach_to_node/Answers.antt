use Rattle.std.proofs.Common.{◌≡◌, ℕ, ◌++◌, if◌then◌else◌, List, get_or, set, Some, length, refl, sym, ap, subst, ◌∙◌}
use Rattle.std.proofs.Common.{is_ok}
use Rattle.std.proofs.lemmas.Option.{slice_get_read}
use Rattle.std.specs.List.{insert, slice_get}
use Rattle.elasticlunr_trie_nodes.specs.Nodes.{children_of, entries_of}
use Rattle.elasticlunr_trie_nodes.specs.Pairs.{IsGapFor}
use Rattle.elasticlunr_trie_nodes.proofs.Branches.{has_branch, other_children, new_children}
use Rattle.elasticlunr_trie_nodes.specs.declared.nodes.Node.{Node}
use Rattle.elasticlunr_trie_nodes.proofs.branch.attach_to_node.Goals as goal

module _ (c : goal.After-unwrap) where
  abbrev old : List Node
  old = c.args.nodes.now.items

  abbrev node : Node
  node = record { children = c.insert.new.self; postings = c.index_mut.result.now.postings }

  grown : c.append.new.self.items ≡ set old c.args.k node ++ c.args.branch.now.items
  grown =
      let put = set c.reserve.new.self.items c.args.k node in
      c.append.ensures.items ∙ ap (λ r. if is_ok r then put ++ c.args.branch.now.items else put) c.unwrap.ensures
      ∙ ap (λ ns. set ns c.args.k node ++ c.args.branch.now.items) c.reserve.ensures.items

  -- the node that is read at k
  at : (n : Node) → n ≡ get_or c.reserve.new.self.items c.args.k n → slice_get old c.args.k ≡ Some n
  at n is = slice_get_read old (length old) c.args.k n refl c.requires.in_range
      (is ∙ ap (λ ns. get_or ns c.args.k n) c.reserve.ensures.items)

  was : slice_get old c.args.k ≡ Some c.index_mut.result.now
  was = at c.index_mut.result.now c.index_mut.ensures.value

  same : node.postings ≡ entries_of (slice_get old c.args.k)
  same = ap entries_of (sym was)

pub returns-clause-nodes : goal.returns-clause-nodes
returns-clause-nodes c = has_branch (old c) c.args.branch.now.items c.append.new.self.items c.args.k (node c)
    c.requires.in_range (same c) (grown c)

pub returns-clause-others : goal.returns-clause-others
returns-clause-others c = other_children (old c) c.args.branch.now.items c.append.new.self.items c.args.k (node c)
    c.requires.in_range (same c) (grown c)

pub returns-clause-gains : goal.returns-clause-gains
returns-clause-gains c = (
  c.gap-at.result,
  subst (λ es. IsGapFor es c.args.c c.gap-at.result) (c.as_slice.ensures
      ∙ sym (ap children_of (at c c.index.result.now c.index.ensures))) c.gap-at.ensures,
  new_children (old c) c.args.branch.now.items c.append.new.self.items c.args.k (node c) c.requires.in_range (same c)
      (grown c)
      ∙ c.in_ok-insert.ensures.ok ∙ ap (λ es. insert es c.gap-at.result c.in_ok-child.child)
      (ap children_of (sym (was c)))
      ∙ ap (λ e. insert (children_of (slice_get (old c) c.args.k)) c.gap-at.result e) (c.in_ok-child.ensures.ok
      ∙ ap (λ (n : ℕ). (c.args.c, n)) (c.len.ensures ∙ c.args.nodes.now.ok.0)),
)
