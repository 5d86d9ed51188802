use Rattle.std.proofs.Common.{◌↔◌, IsTrue, subst, sym, ◌∙◌}
use Rattle.elasticlunr_trie.specs.Same.{IsSameBelow}
use Rattle.elasticlunr_trie_nodes.specs.declared.nodes.Place.TheVariants.{Root}
use Rattle.elasticlunr_trie.specs.EqualTables.{tables_Decides}
use Rattle.elasticlunr_trie.proofs.Alike.{same_roots, one_answer}
use Rattle.elasticlunr_trie.proofs.inverted_index.InvertedIndexPartialEq.eq.Goals as goal

pub returns-clause-equal : goal.returns-clause-equal
returns-clause-equal c =
    let roots = same_roots c.self.inside.names c.self.inside.root.items c.self.inside.nodes.items c.other.inside.names
    c.other.inside.root.items c.other.inside.nodes.items c.self.invariant.0.trie c.other.invariant.0.trie in
    let below = subst (λ P. IsTrue c.same_below.result ↔ P)
    (λ i. IsSameBelow c.self.inside.names (c.deref.ensures.value i) (c.deref-2.ensures.value i) Root
    c.other.inside.names (c.deref-3.ensures.value i) (c.deref-4.ensures.value i) Root) c.same_below.ensures in (
      λ h. sym c.self.view_is ∙ roots.0 (below.0 h)
          ∙ c.other.view_is,
      λ e. below.1 (roots.1 (c.self.view_is ∙ e ∙ sym c.other.view_is)),
    )

pub returns-clause-test : goal.returns-clause-test
returns-clause-test c =
    one_answer c.same_below.result _ _ (returns-clause-equal c) (tables_Decides c.args.self.now c.args.other.now)
