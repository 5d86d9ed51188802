use Rattle.std.proofs.Common.{◌≡◌, ◌-◌, ◌↔◌, ◌⊎◌, ℕ, sym, ap, ◌∙◌, arith, subst, Some, length-set, IsTrue}
use Rattle.elasticlunr_trie_nodes.specs.Pairs.{IsStrictlySorted}
use Rattle.elasticlunr_trie.specs.Children.{child}
use Rattle.elasticlunr_trie_nodes.specs.Nodes.{children_of, entries_of}
use Rattle.std.specs.FinMap.{get}
use Rattle.elasticlunr_trie.specs.Compact.{is_marked}
use Rattle.elasticlunr_trie_nodes.specs.declared.nodes.Place.TheVariants.{At}
use Rattle.elasticlunr_trie_nodes.proofs.Places.{get_there}
use Rattle.elasticlunr_trie.proofs.Compact.{one_marked}
use Rattle.std.proofs.Common.{rules}
use Rattle.elasticlunr_trie.proofs.inverted_index.compact.mark.Goals as goal

pub bears_posting-bears-requires-clause-sorted : goal.bears_posting-bears-requires-clause-sorted
bears_posting-bears-requires-clause-sorted c =
    let i = c.loop-i.i - 1 in
    let here = get_there c.args.nodes.now i c.index-nodes-i.result (omega (arith, c.loop-i.invariant.low))
    ∙ ap Some (sym c.index-nodes-i.is) in
    subst IsStrictlySorted (ap children_of here) (c.requires.trie.in_order (At i))

pub bears_posting-bears-requires-clause-in_range : goal.bears_posting-bears-requires-clause-in_range
bears_posting-bears-requires-clause-in_range c d k e =
    let i = c.loop-i.i - 1 in
    let here = get_there c.args.nodes.now i c.index-nodes-i.result (omega (arith, c.loop-i.invariant.low))
    ∙ ap Some (sym c.index-nodes-i.is) in
    omega (
      arith,
      c.requires.trie.forest.is_node (At i) d k (ap (λ o. child (children_of o) d) here ∙ e),
      c.loop-i.invariant.count,
    )

pub loop-i-preserved : goal.loop-i-preserved
loop-i-preserved c =
    let i = c.loop-i.i - 1 in
    let nodes = c.args.nodes.now in
    let marks = c.loop-i.marks in
    let b = c.bears_posting-bears.result in
    let here = get_there nodes i c.index-nodes-i.result (omega (arith, c.loop-i.invariant.low))
    ∙ ap Some (sym c.index-nodes-i.is) in
    let tells = subst (λ o. IsTrue b ↔ (((r : ℕ) × (n : ℕ) × (get (entries_of o) r ≡ Some n))
    ⊎ ((x : ℕ) × (k : ℕ) × (child (children_of o) x ≡ Some k) × IsTrue (is_marked marks k)))) (sym here)
    c.bears_posting-bears.ensures in
    record {
      low = omega (arith, c.loop-i.invariant.low);
      count = length-set marks i b ∙ c.loop-i.invariant.count;
      each = one_marked nodes c.requires.trie marks i b (omega (arith, c.loop-i.invariant.low)) c.loop-i.invariant.count
          (λ k up lt. c.loop-i.invariant.each k (omega arith) lt) tells;
    }

pub loop-i-init : goal.loop-i-init
loop-i-init c = search rules

pub returns-clause-count : goal.returns-clause-count
returns-clause-count c = search rules

pub returns-clause-each : goal.returns-clause-each
returns-clause-each c = search rules
