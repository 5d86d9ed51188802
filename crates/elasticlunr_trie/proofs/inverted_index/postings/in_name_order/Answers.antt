use Rattle.std.proofs.Common.{◌≡◌, ◌<◌, Some, [], ◌∷◌, ◌++◌, length, sym, ap, subst, ◌∙◌, arith, get_or, take_all}
use Rattle.std.specs.FinMap.{entries, len-entries}
use Rattle.std.specs.List.{slice_get}
use Rattle.elasticlunr_trie_nodes.specs.Names.{under_names}
use Rattle.elasticlunr_trie_nodes.specs.Pairs.{key_at}
use Rattle.elasticlunr_trie_nodes.proofs.Named.{name_there, under_more}
use Rattle.elasticlunr_trie.specs.Tokens.{told_postings}
use Rattle.elasticlunr_trie.proofs.NameOrder.{in_name_order, told_behind}
use Rattle.std.proofs.Common.{rules}
use Rattle.elasticlunr_trie.proofs.inverted_index.postings.in_name_order.Goals as goal

pub name-requires : goal.name-requires
name-requires c =
    subst (λ n. n < length c.args.names.now) (sym (ap (λ e. e.0) c.at-number.ensures))
    (c.requires.postings.there c.loop-i.i (omega (
      arith,
      c.loop-i-test.true,
      c.len-count.ensures,
      len-entries c.args.postings.now,
    )))

pub loop-i-preserved : goal.loop-i-preserved
loop-i-preserved c =
    let i = c.loop-i.i in
    let pairs = entries c.args.postings.now in
    let names = c.args.names.now in
    let name = get_or names (key_at pairs i) [] in
    let below : i < length pairs = omega (arith, c.loop-i-test.true, c.len-count.ensures, len-entries c.args.postings.now) in
    let number = ap (λ e. e.0) c.at-number.ensures in
    let frequency = ap (λ e. e.1) c.at-number.ensures in
    let at_key = ap (λ n. slice_get names n) (sym number) ∙ c.name.ensures in
    let there : Some name ≡ Some c.name.result.now =
    sym (name_there names c.requires.names (key_at pairs i)
    (c.requires.postings.there i below)) ∙ at_key in
    let is : c.name.result.now ≡ name = cc in
    ap told_postings c.in_ok-push.ensures.items
    ∙ told_behind c.loop-i.named.items (c.name.result, c.at-number.result.1)
    ∙ (λ j. c.loop-i.invariant j ++ (is j, frequency j) ∷ [])
    ∙ sym (under_more names pairs i below)

pub returns : goal.returns
returns c =
    let pairs = entries c.args.postings.now in
    let names = c.args.names.now in
    let all = take_all c.loop-i.i pairs (omega (
      arith,
      c.loop-i-test.false,
      c.len-count.ensures,
      len-entries c.args.postings.now,
    )) in
    in_name_order names c.requires.names pairs c.requires.postings c.loop-i.named.items
    c.sort_unstable.new.self.items (c.loop-i.invariant ∙ ap (under_names names) all)
    c.sort_unstable.ensures.permutation c.sort_unstable.ensures.sorted

pub loop-i-init : goal.loop-i-init
loop-i-init c = search rules
