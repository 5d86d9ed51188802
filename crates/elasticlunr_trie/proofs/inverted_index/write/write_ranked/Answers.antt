use Rattle.std.proofs.Common.{◌++◌, ◌∷◌, sym, ap, ◌∙◌, append_assoc, codes, decimal, get_or, drop, arith, length-drop}
use Rattle.std.proofs.Common.{◌+◌}
use Rattle.std.proofs.lemmas.List.{nil_from_length}
use Rattle.json.specs.Token.{Token}
use Rattle.elasticlunr_trie_nodes.specs.Names.{under_names}
use Rattle.elasticlunr_trie.specs.Tree.{frequencies}
use Rattle.elasticlunr_json.specs.Tokens.{tokens_of}
use Rattle.elasticlunr_trie_nodes.proofs.Gathered.{name_of}
use Rattle.elasticlunr_trie_nodes.proofs.Ranked.{behind, under_behind_rest}
use Rattle.elasticlunr_trie.proofs.inverted_index.write.write_ranked.Goals as goal

pub loop-number-preserved : goal.loop-number-preserved
loop-number-preserved g c =
    let i = c.loop-number.number-index in
    let r = c.args.ranked.now in
    let names = c.args.names.now in
    let e = get_or r i (0, 0, 0) in
    let name = name_of names e.1 c.name.result.now (c.requires i c.loop-number-test.true) c.name.ensures in
    let later = tokens_of (frequencies (under_names names (behind (drop (i + 1) r)))) in
    let written = g.W.Tokens.written c.loop-number.out in
    ap (λ ts. ts ++ later) c.in_ok-write_posting.ensures ∙ append_assoc written _ later
    ∙ (λ j. written ++ (Token.key (name j) ∷ Token.begin_object ∷ Token.key (codes "tf") ∷ Token.number (decimal e.2)
    ∷ Token.end_object ∷ later))
    ∙ ap (λ es. written ++ tokens_of (frequencies es)) (sym (under_behind_rest names r i c.loop-number-test.true))
    ∙ c.loop-number.invariant

pub returns : goal.returns
returns g c =
    let none = nil_from_length (drop c.loop-number.number-index c.args.ranked.now)
    (omega (arith, length-drop c.loop-number.number-index c.args.ranked.now, c.loop-number-test.false)) in
    sym (ap (λ r. g.W.Tokens.written c.loop-number.out ++ tokens_of
    (frequencies (under_names c.args.names.now (behind r)))) none) ∙ c.loop-number.invariant
