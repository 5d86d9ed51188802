-- A single posting under the name of its number.
use Rattle.std.proofs.Common.{◌≡◌, ◌<◌, ℕ, refl, [], ◌∷◌, length, get_or, sym, ap, subst, ◌∙◌, arith}
use Rattle.std.specs.FinMap.{len, entries, len-entries, get-from_entries, get-from_sorted, entries-from_sorted}
use Rattle.std.proofs.lemmas.Cmp.{nat_list_cmp_total}
use Rattle.elasticlunr_error.specs.Text.{text_cmp}
use Rattle.elasticlunr_trie_nodes.specs.Pairs.{Pairs}
use Rattle.elasticlunr_trie_nodes.specs.Frequencies.{Frequencies}
use Rattle.elasticlunr_trie_nodes.specs.Names.{Names, AreNames, AreNumbered, named_pairs, under_names}
use Rattle.elasticlunr_trie_nodes.specs.Trie.{named}
use Rattle.elasticlunr_trie_nodes.proofs.Named.{pairs_are, pairs_named}
use Rattle.elasticlunr_trie_nodes.proofs.Settled.{same_named}

-- the entry of a single pair
single_entries : (names : Names) (l : Pairs) → length l ≡ 1 → entries (named_pairs names l)
    ≡ (get_or names (get_or l 0 (0, 0)).0 [], (get_or l 0 (0, 0)).1) ∷ []
single_entries names [] count = absurd (omega (arith, count))
single_entries names (e ∷ d ∷ l) count = absurd (omega (arith, count))
single_entries names (e ∷ []) count =
    ap entries (same_named _ _ (λ q.
    get-from_entries nat_list_cmp_total (under_names names (e ∷ [])) q
    ∙ sym (get-from_sorted text_cmp (under_names names (e ∷ [])) q tt)))
    ∙ entries-from_sorted text_cmp (under_names names (e ∷ [])) tt

-- postings that have one entry
module _ (names : Names) (P : Frequencies) (numbered : AreNumbered names P) (single : len P ≡ 1) (l : Pairs)
    (pairs : l ≡ entries P) where
  count : length l ≡ 1
  count = ap length pairs ∙ sym (len-entries P) ∙ single

  -- the first pair, whatever the default is
  pub single_item : (d : ℕ × ℕ) → get_or l 0 d ≡ get_or l 0 (0, 0)
  single_item d = by l count
    where
      by : (l : Pairs) → length l ≡ 1 → get_or l 0 d ≡ get_or l 0 (0, 0)
      by [] count = absurd (omega (arith, count))
      by (e ∷ l) count = refl

  -- its number has a name
  pub single_there : (get_or l 0 (0, 0)).0 < length names
  single_there = subst (λ (es : Pairs). (get_or es 0 (0, 0)).0 < length names) (sym pairs)
      ((pairs_are names P numbered).there 0 (omega (arith, single, len-entries P)))

  -- the entries under names
  pub single_named : AreNames names → entries (named names P)
      ≡ (get_or names (get_or l 0 (0, 0)).0 [], (get_or l 0 (0, 0)).1) ∷ []
  single_named are = ap entries (pairs_named names P numbered are ∙ ap (named_pairs names) (sym pairs))
      ∙ single_entries names l count
