use Rattle.std.proofs.Common.{◌≡◌, ◌∷◌, ◌++◌, sym, ap, ◌∙◌, append_assoc, codes, decimal}
use Rattle.json.specs.Token.{Token}
use Rattle.std.specs.FinMap.{entries}
use Rattle.elasticlunr_trie_nodes.specs.Names.{under_names}
use Rattle.elasticlunr_trie_nodes.specs.Trie.{named}
use Rattle.elasticlunr_trie.specs.Tree.{frequencies}
use Rattle.elasticlunr_json.specs.Tokens.{tokens_of}
use Rattle.elasticlunr_trie_nodes.proofs.Named.{pairs_are, pairs_named}
use Rattle.elasticlunr_trie_nodes.proofs.Ranked.{behind, count_shown}
use Rattle.elasticlunr_json.proofs.Rows.{four}
use Rattle.elasticlunr_trie.proofs.inverted_index.write.write_sorted.Goals as goal

pub in_order-requires-clause-postings : goal.in_order-requires-clause-postings
in_order-requires-clause-postings g c = pairs_are c.args.order.names.now c.args.postings.now c.requires.numbered

pub returns : goal.returns
returns g c =
    let old = g.W.Tokens.written c.args.out.now in
    let names = c.args.order.names.now in
    let P = named names c.args.postings.now in
    let r = c.in_ok-ranked.ranked.items in
    let is : entries P ≡ under_names names (behind r) =
    ap entries (pairs_named names c.args.postings.now c.requires.numbered c.requires.order.0)
    ∙ c.in_ok-ranked.ensures.shown in
    let start = four old _ _ _ _ _ _ _ _ c.in_ok-token.ensures c.in_ok-number.ensures c.in_ok-token-2.ensures
    c.in_ok-token-3.ensures in
    let count = c.len.ensures ∙ c.in_ok-ranked.ranked.ok.0 ∙ sym (count_shown names P r is) in
    let all = ap (λ es. under_names names (behind es)) c.deref.ensures.value ∙ sym is in
    c.in_ok-token-4.ensures ∙ c.in_ok-write_ranked.ensures
    ∙ ap (λ ts. ts ++ tokens_of (frequencies (under_names names (behind c.deref.result.now)))) start
    ∙ append_assoc old _ _
    ∙ ap (λ ts. old ++ ts) (λ i. Token.key (codes "df") ∷ Token.number (decimal (count i)) ∷ Token.key (codes "docs")
    ∷ Token.begin_object ∷ tokens_of (frequencies (all i)))
