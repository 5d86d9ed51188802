use Rattle.std.proofs.Common.{◌≡◌, ◌<◌, ℕ, zero, suc, ◌∷◌, ◌++◌, [], length, get_or, refl, sym, ap, subst, ◌∙◌, arith}
use Rattle.std.proofs.Common.{append_assoc, codes, decimal}
use Rattle.json.specs.Token.{Token}
use Rattle.std.specs.FinMap.{entries, len-entries}
use Rattle.elasticlunr_trie_nodes.specs.Names.{Names, AreThere}
use Rattle.elasticlunr_trie_nodes.specs.Trie.{named}
use Rattle.elasticlunr_trie.specs.Tree.{frequencies}
use Rattle.elasticlunr_json.specs.Tokens.{tokens_of}
use Rattle.elasticlunr_json.proofs.Rows.{four}
use Rattle.elasticlunr_trie_nodes.proofs.Single.{single_named, single_there}
use Rattle.elasticlunr_trie.proofs.inverted_index.write.write_single.Goals as goal

one_there : (names : Names) (e : ℕ × ℕ × ℕ) → e.1 < length names → AreThere names (e ∷ [])
one_there names e there zero lt = there
one_there names e there (suc i) lt = absurd (omega (arith, lt))

pub write_ranked-requires : goal.write_ranked-requires
write_ranked-requires g c =
    one_there c.args.names.now _ (subst (λ n. n < length c.args.names.now)
    (sym (ap (λ (e : ℕ × ℕ). e.0) c.at-number.ensures))
    (single_there c.args.names.now c.args.postings.now c.requires.numbered c.requires.single _ refl))

pub returns : goal.returns
returns g c =
    let old = g.W.Tokens.written c.args.out.now in
    let names = c.args.names.now in
    let P = named names c.args.postings.now in
    let e = get_or (entries c.args.postings.now) 0 (0, 0) in
    let is : entries P ≡ (get_or names e.0 [], e.1) ∷ [] = single_named names c.args.postings.now c.requires.numbered
    c.requires.single _ refl c.requires.names in
    let number = ap (λ (e : ℕ × ℕ). e.0) c.at-number.ensures in
    let frequency = ap (λ (e : ℕ × ℕ). e.1) c.at-number.ensures in
    let count = sym (len-entries P ∙ ap length is) in
    let all : (get_or names c.at-number.result.0 [], c.at-number.result.1) ∷ [] ≡ entries P =
    (λ i. (get_or names (number i) [], frequency i) ∷ []) ∙ sym is in
    let start = four old _ _ _ _ _ _ _ _ c.in_ok-token.ensures c.in_ok-number.ensures c.in_ok-token-2.ensures
    c.in_ok-token-3.ensures in
    c.in_ok-token-4.ensures ∙ c.in_ok-write_ranked.ensures
    ∙ ap (λ ts. ts ++ tokens_of (frequencies ((get_or names c.at-number.result.0 [], c.at-number.result.1) ∷ []))) start
    ∙ append_assoc old _ _
    ∙ ap (λ ts. old ++ ts) (λ i. Token.key (codes "df") ∷ Token.number (decimal (count i)) ∷ Token.key (codes "docs")
    ∷ Token.begin_object ∷ tokens_of (frequencies (all i)))
