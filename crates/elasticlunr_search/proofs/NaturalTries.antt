-- The trie value of a table has natural numbers alone, so it stays as it is.
use Rattle.std.proofs.Common.{◌≡◌, inl, inr, List, [], ◌∷◌, ◌++◌, Some, codes, refl, sym, ap, ◌∙◌}
use Rattle.std.specs.Prelude.{ℕ}
use Rattle.std.specs.FinMap.{entries, len}
use Rattle.serde_json.specs.Data.{Data, null, boolean, number, unsigned, string, array, object, Members, no_members}
use Rattle.serde_json.specs.Data.{member}
use Rattle.serde_json.specs.Find.{get_member}
use Rattle.elasticlunr_text.specs.Text.{Text, Bytes}
use Rattle.elasticlunr_trie.specs.Table.{Table, postings}
use Rattle.elasticlunr_trie.specs.Tree.{IsTree, AreParts, IsTrieValue, frequencies}
use Rattle.elasticlunr_print.proofs.Members.{AreFound, all_found}
use Rattle.elasticlunr_search.specs.Whole.{with_ones, members_with_ones}

frequencies_same : (es : List (Bytes × ℕ)) → members_with_ones (frequencies es) ≡ frequencies es
frequencies_same [] = refl
frequencies_same (e ∷ es) = λ i. member e.0 (object (member (codes "tf") (number (unsigned e.1)) no_members))
    (frequencies_same es i)

module _ (T : Table) where
  -- as the tree of a text it stays as it is
  abbrev WillBeSame : Data → Type 0
  WillBeSame d = (p : Text) → IsTree T p d → with_ones d ≡ d

  abbrev AllWillBeSame : Members → Type 0
  AllWillBeSame no_members = Unit {0}
  AllWillBeSame (member k d ms) = WillBeSame d × AllWillBeSame ms

  parts_same : (p : Text) (all ms : Members) → get_member (codes "docs") all
      ≡ Some (object (frequencies (entries (postings T p))))
      → get_member (codes "df") all ≡ Some (number (unsigned (len (postings T p)))) → AllWillBeSame ms
      → AreFound all ms → AreParts T p ms → members_with_ones ms ≡ ms
  parts_same p all no_members docs df will found parts = refl
  parts_same p all (member k d ms) docs df will found parts =
      let here : with_ones d ≡ d = elim parts.0 [
        | inl is ↦
            let both : Some d ≡ Some (object (frequencies (entries (postings T p)))) = sym found.0
            ∙ ap (λ q. get_member q all) is ∙ docs in
            let same : d ≡ object (frequencies (entries (postings T p))) = cc in
            ap with_ones same ∙ ap object (frequencies_same (entries (postings T p))) ∙ sym same
        | inr (inl is) ↦
            let both : Some d ≡ Some (number (unsigned (len (postings T p)))) = sym found.0
            ∙ ap (λ q. get_member q all) is ∙ df in
            let same : d ≡ number (unsigned (len (postings T p))) = cc in
            ap with_ones same ∙ sym same
        | inr (inr letter) ↦ will.0 (p ++ letter.0 ∷ []) letter.2
      ] in
      let rest = parts_same p all ms docs df will.1 found.1 parts.1 in
      λ i. member k (here i) (rest i)

  mutual
    tree_same : (d : Data) → WillBeSame d
    tree_same null p tree = absurd tree
    tree_same (boolean b) p tree = absurd tree
    tree_same (number n) p tree = absurd tree
    tree_same (string s) p tree = absurd tree
    tree_same (array ds) p tree = absurd tree
    tree_same (object ms) p tree = ap object
        (parts_same p ms ms tree.1 tree.2 (all_same ms) (all_found ms tree.0) tree.4)

    all_same : (ms : Members) → AllWillBeSame ms
    all_same no_members = tt
    all_same (member k d ms) = (tree_same d, all_same ms)

  -- the trie value of a table stays as it is
  pub trie_same : (v : Data) → IsTrieValue T v → with_ones v ≡ v
  trie_same v value = ap with_ones value.1
      ∙ ap (λ d. object (member (codes "root") d no_members)) (tree_same value.0 [] value.2) ∙ sym value.1
