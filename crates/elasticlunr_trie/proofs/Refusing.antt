-- Values that no table has.
use Rattle.std.proofs.Common.{◌≡◌, ◌⊎◌, inl, inr, ℕ, List, [], ◌∷◌, ◌++◌, Some, IsSome, is_some, codes, encode_utf8}
use Rattle.std.proofs.Common.{refl, sym, ap, subst, ◌∙◌, Less, Equal, Greater, Bool, true, false}
use mathlib.Core.Bool.{false≢true, ◌&&◌}
use Rattle.std.specs.Ordering.{nat_cmp, match_ordering, is_eq}
use Rattle.std.specs.Cmp.Lexicographic.{slice_cmp}
use Rattle.std.specs.Str.{all_scalars}
use Rattle.std.specs.FinMap as map
use Rattle.serde_json.specs.Data.{Data, object, number, unsigned, Members, no_members, member}
use Rattle.serde_json.specs.Find.{get, get_member}
use Rattle.elasticlunr_error.specs.Text.{Text}
use Rattle.elasticlunr_trie_nodes.specs.Table.{Table, IsTable, postings, Entries, postings_of}
use Rattle.elasticlunr_trie.specs.Tree.{IsTree, AreParts, frequencies}
use Rattle.elasticlunr_trie.specs.Reading.{HasForeignKey}
use Rattle.elasticlunr_trie.proofs.Unique.{same_docs}
use Rattle.elasticlunr_json.proofs.Texts.{text_tie}

-- `docs` tells `df`
pub count_told : (T : Table) (p : Text) (d : Data) (ms : Members) (v : Data) (es : Entries) (n : ℕ) → d ≡ object ms
    → IsTree T p d → Some v ≡ get (codes "docs") d → v ≡ object (frequencies (map.entries (postings_of es))) → n
    ≡ map.len (postings_of es)
    → get (codes "df") d ≡ Some (number (unsigned n))
count_told T p d ms v es n is tree docs told count =
    let whole = subst (IsTree T p) is tree in
    let both : Some (object (frequencies (map.entries (postings T p))))
    ≡ Some (object (frequencies (map.entries (postings_of es)))) = sym whole.1 ∙ sym (ap (get (codes "docs")) is)
    ∙ sym docs ∙ ap Some told in
    let same : object (frequencies (map.entries (postings T p))) ≡ object (frequencies (map.entries (postings_of es))) =
    cc in
    ap (get (codes "df")) is ∙ whole.2 ∙ ap (λ P. Some (number (unsigned (map.len P))))
    (same_docs (postings T p) (postings_of es) same) ∙ ap (λ m. Some (number (unsigned m))) (sym count)

-- the keys of a tree
key_of : (T : Table) (p : Text) (q : List ℕ) (ms : Members) → AreParts T p ms → IsSome (get_member q ms)
    → (q ≡ codes "docs") ⊎ (q ≡ codes "df") ⊎ ((c : ℕ) × (q ≡ encode_utf8 c))
key_of T p q no_members parts found = absurd (false≢true found)
key_of T p q (member k d ms) parts found =
    elim (slice_cmp nat_cmp q k) as (λ o. slice_cmp nat_cmp q k ≡ o
    → IsSome (match_ordering o (get_member q ms) (Some d) (get_member q ms)) → (q ≡ codes "docs")
    ⊎ (q ≡ codes "df") ⊎ ((c : ℕ) × (q ≡ encode_utf8 c))) [
      | Less ↦ λ is here. key_of T p q ms parts.1 here
      | Equal ↦ λ is here.
          let key : q ≡ k = text_tie q k (ap is_eq is) in
          elim parts.0 [
            | inl docs ↦ inl (key ∙ docs)
            | inr (inl df) ↦ inr (inl (key ∙ df))
            | inr (inr letter) ↦ inr (inr (letter.0, key ∙ letter.1))
          ]
      | Greater ↦ λ is here. key_of T p q ms parts.1 here
    ] refl found

last_scalar : (p : Text) (c : ℕ) → all_scalars (p ++ c ∷ []) ≡ true → all_scalars (c ∷ []) ≡ true
last_scalar [] c h = h
last_scalar (d ∷ p) c h = last_scalar p c (second _ _ h)
  where
    second : (a b : Bool) → (a && b) ≡ true → b ≡ true
    second true b h = h
    second false b h = absurd (false≢true h)

-- a member under a key that no node has
pub foreign_key : (T : Table) (p : Text) (d : Data) (ms : Members) → d ≡ object ms → IsTable T → IsTree T p d
    → HasForeignKey ms → ⊥
foreign_key T p d ms is table tree foreign =
    let whole = subst (IsTree T p) is tree in
    elim (key_of T p foreign.0 ms whole.4 foreign.1) [
      | inl docs ↦ foreign.2 docs
      | inr (inl df) ↦ foreign.3 df
      | inr (inr letter) ↦
          let there : IsSome (get_member (encode_utf8 letter.0) ms) = ap (λ q. is_some (get_member q ms)) (sym letter.1)
          ∙ foreign.1 in
          let known = (whole.3 letter.0).1 there in
          foreign.4 letter.0 (last_scalar p letter.0 (table.characters (p ++ letter.0 ∷ []) known)) letter.1
    ]
