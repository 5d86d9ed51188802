use Rattle.std.proofs.Common.{◌≡◌, None, Ok, sym, ◌∙◌}
use Rattle.elasticlunr_trie_nodes.specs.Names.{number_of, names_of}
use Rattle.elasticlunr_trie_nodes.proofs.Added.{distinct_stay}
use Rattle.elasticlunr_trie_nodes.proofs.Numbers.{numbers_stay, number_given}
use Rattle.elasticlunr_trie_nodes.proofs.names.Names.enter.Goals as goal

pub invariant_of-self-2 : goal.invariant_of-self-2
invariant_of-self-2 c =
    let free : number_of (names_of c.self.inside.in_order.items) c.args.name.now
    ≡ None = sym (c.self.invariant.0 c.args.name.now) ∙ sym c.in_default-get.ensures.value in (
      numbers_stay _ _ c.self.inside.numbers c.add_name.new.numbers c.args.name.now free c.add_name.result
          c.self.invariant.0 c.add_name.ensures.name c.add_name.ensures.numbers c.add_name.ensures.same_names
          c.add_name.ensures.same_numbers,
      distinct_stay _ _ c.args.name.now free c.add_name.result c.self.invariant.1 c.add_name.ensures.name
          c.add_name.ensures.same_names,
    )

pub returns-clause-number : goal.returns-clause-number
returns-clause-number c =
    let free : number_of (names_of c.self.inside.in_order.items) c.args.name.now
    ≡ None = sym (c.self.invariant.0 c.args.name.now) ∙ sym c.in_default-get.ensures.value in
    number_given {E = Unit {0}} _ _ c.self.inside.numbers c.add_name.new.numbers c.args.name.now free
    (Ok c.in_ok-number.number) c.in_ok-number.ensures.number c.in_ok-number.ensures.name
