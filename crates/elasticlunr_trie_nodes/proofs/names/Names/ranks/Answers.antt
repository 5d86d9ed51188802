use Rattle.std.proofs.Common.{◌≡◌, sym, ap, subst, ◌∙◌, arith, length}
use Rattle.elasticlunr_trie_nodes.specs.Names.{AreNames, AreRanks, HasNumbersBelow, names_of}
use Rattle.elasticlunr_trie_nodes.proofs.Naming.{numbers_below, numbers_differ, names_ranked}
use Rattle.elasticlunr_trie_nodes.proofs.Numbers.{length-names}
use Rattle.std.proofs.Common.{rules}
use Rattle.elasticlunr_trie_nodes.proofs.names.Names.ranks.Goals as goal

pub set_ranks-requires-clause-in_range : goal.set_ranks-requires-clause-in_range
set_ranks-requires-clause-in_range c =
    let names = names_of c.self.inside.in_order.items in
    let count : length c.loop.ranks.items ≡ length names =
    omega (
      arith,
      c.loop.invariant,
      c.loop-test.false,
      c.loop.auto.index-end,
      ap length c.deref-items.ensures.value,
      length-names c.self.inside.in_order.items,
    ) in
    subst (HasNumbersBelow c.self.inside.numbers.entries) (sym count)
    (numbers_below c.self.inside.numbers names c.self.invariant.0 c.len.ensures.ordered)

pub set_ranks-requires-clause-apart : goal.set_ranks-requires-clause-apart
set_ranks-requires-clause-apart c = numbers_differ c.self.inside.numbers (names_of c.self.inside.in_order.items)
    c.self.invariant.0 c.len.ensures.ordered

pub returns : goal.returns
returns c =
    let names = names_of c.self.inside.in_order.items in
    let count : length c.loop.ranks.items ≡ length names =
    omega (
      arith,
      c.loop.invariant,
      c.loop-test.false,
      c.loop.auto.index-end,
      ap length c.deref-items.ensures.value,
      length-names c.self.inside.in_order.items,
    ) in
    let are = subst AreNames (sym c.self.view_is) c.requires in
    subst (λ ns. AreRanks ns c.set_ranks.new.ranks.items) c.self.view_is
    (names_ranked c.self.inside.numbers names c.self.invariant.0 c.len.ensures.ordered are c.set_ranks.new.ranks.items
    (c.set_ranks.ensures.count ∙ count) c.set_ranks.ensures.ranks)

pub loop-init : goal.loop-init
loop-init c = search rules

pub loop-preserved : goal.loop-preserved
loop-preserved c = search rules
