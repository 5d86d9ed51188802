-- A value is the trie value of one table at most.
use Rattle.elasticlunr_trie_nodes.specs.Names.{Names}
use Rattle.elasticlunr_trie.specs.Children.{Children}
use Rattle.elasticlunr_trie_nodes.specs.Trie.{IsTrie, table_of, step_of, walk}
use Rattle.std.proofs.Common.{◌≡◌, inl, inr, ℕ, Bool, true, false, List, [], ◌∷◌, ◌++◌, Option, Some, None, IsTrue}
use Rattle.std.proofs.Common.{is_some, unwrap_or, encode_utf8, refl, sym, ap, subst, ◌∙◌, arith, append_assoc}
use Rattle.std.proofs.Common.{append-nil, Less, Equal, Greater}
use mathlib.Core.Bool.{false≢true}
use Rattle.std.specs.Ordering.{nat_cmp, match_ordering, is_eq}
use Rattle.std.specs.Cmp.Lexicographic.{slice_cmp}
use Rattle.std.specs.FinMap as map
use Rattle.serde_json.specs.Data.{Data, null, boolean, string, array, object, number, Members, no_members, member}
use Rattle.serde_json.specs.Find.{get_member}
use Rattle.elasticlunr_error.specs.Text.{Text}
use Rattle.elasticlunr_trie_nodes.specs.Table.{Table, Postings, knows, postings, IsPrefix, IsTable}
use Rattle.elasticlunr_trie.specs.Tree.{IsTree, AreParts, IsTrieValue, frequency, frequencies}
use Rattle.elasticlunr_trie_nodes.specs.declared.nodes.Node.{Node}
use Rattle.elasticlunr_trie_nodes.specs.declared.nodes.Place.TheVariants.{Root}
use Rattle.elasticlunr_trie_nodes.proofs.Forest.{walk_front}
use Rattle.elasticlunr_trie_nodes.proofs.Adding.{known_from, known_to}
use Rattle.elasticlunr_trie_nodes.proofs.Settled.{same_table}
use Rattle.elasticlunr_json.proofs.Keyed.{same_keyed}
use Rattle.elasticlunr_json.proofs.Texts.{text_tie}
use Rattle.elasticlunr_trie.proofs.Finishing.{not_letter, letters_same, some_of}

-- what the law needs of a table
pub record IsClosed (T : Table) : Type 0 where
  pub empty_known : IsTrue (knows T [])
  pub beginnings : (s t : Text) → IsPrefix s t → IsTrue (knows T t) → IsTrue (knows T s)

pub closed : (T : Table) → IsTable T → IsClosed T
closed T table = record { empty_known = table.empty_known; beginnings = table.beginnings }

-- the value of postings tells them
same_frequency : (x y : ℕ) → frequency x ≡ frequency y → x ≡ y
same_frequency x y e = cc

pub same_docs : (P Q : Postings) → object (frequencies (map.entries P)) ≡ object (frequencies (map.entries Q)) → P ≡ Q
same_docs P Q e = same_keyed frequency same_frequency P Q e

-- under a character stands the tree of the longer text
pub part_at : (T : Table) (p : Text) (ms : Members) (c : ℕ) (d : Data) → AreParts T p ms → get_member (encode_utf8 c) ms
    ≡ Some d → IsTree T (p ++ c ∷ []) d
part_at T p no_members c d parts found = absurd (cc)
part_at T p (member k e ms) c d parts found =
    elim (slice_cmp nat_cmp (encode_utf8 c) k) as (λ o. slice_cmp nat_cmp (encode_utf8 c) k ≡ o
    → match_ordering o (get_member (encode_utf8 c) ms) (Some e) (get_member (encode_utf8 c) ms) ≡ Some d
    → IsTree T (p ++ c ∷ []) d) [
      | Less ↦ λ is here. part_at T p ms c d parts.1 here
      | Equal ↦ λ is here.
          let key : encode_utf8 c ≡ k = text_tie (encode_utf8 c) k (ap is_eq is) in
          let value : e ≡ d = cc in
          elim parts.0 [
            | inl docs ↦ absurd (not_letter c 100 111 (99 ∷ 115 ∷ []) (omega arith) (sym (key ∙ docs)))
            | inr (inl df) ↦ absurd (not_letter c 100 102 [] (omega arith) (sym (key ∙ df)))
            | inr (inr letter) ↦
                let same = letters_same letter.0 c (sym letter.1 ∙ sym key) in
                subst (λ x. IsTree T (p ++ x ∷ []) d) same (subst (IsTree T (p ++ letter.0 ∷ [])) value letter.2)
          ]
      | Greater ↦ λ is here. part_at T p ms c d parts.1 here
    ] refl found

unknown_after : (T : Table) → IsClosed T → (p t : Text) → knows T p ≡ false → map.get T (p ++ t) ≡ None
unknown_after T table p t none = by (map.get T (p ++ t)) refl
  where
    by : (o : Option Postings) → map.get T (p ++ t) ≡ o → map.get T (p ++ t) ≡ None
    by None e = e
    by (Some x) e = absurd (false≢true (sym none ∙ table.beginnings p (p ++ t) (t, refl) (ap is_some e)))

known_postings : (T : Table) (p : Text) → IsTrue (knows T p) → map.get T p ≡ Some (postings T p)
known_postings T p k =
    let at = some_of (map.get T p) k in
    at.1 ∙ sym (ap (λ o. Some (unwrap_or o map.empty)) at.1)

-- a tree is an object
tree_members : (T : Table) (p : Text) (d : Data) → IsTree T p d → (ms : Members) × (d ≡ object ms)
tree_members T p null tree = absurd tree
tree_members T p (boolean b) tree = absurd tree
tree_members T p (number n) tree = absurd tree
tree_members T p (string s) tree = absurd tree
tree_members T p (array ds) tree = absurd tree
tree_members T p (object ms) tree = (ms, refl)

not_known : (b : Bool) → (b ≡ true → ⊥) → b ≡ false
not_known true h = absurd (h refl)
not_known false h = refl

module _ (T U : Table) (t_closed : IsClosed T) (u_closed : IsClosed U) where
  agree : (t p : Text) (ms : Members) → IsTrue (knows T p) → IsTrue (knows U p) → IsTree T p (object ms)
      → IsTree U p (object ms) → map.get T (p ++ t) ≡ map.get U (p ++ t)
  agree [] p ms kt ku one two =
      let both : Some (object (frequencies (map.entries (postings T p))))
      ≡ Some (object (frequencies (map.entries (postings U p)))) = sym one.1 ∙ two.1 in
      let docs : object (frequencies (map.entries (postings T p))) ≡ object (frequencies (map.entries (postings U p))) =
      cc in
      ap (map.get T) (append-nil p) ∙ known_postings T p kt ∙ ap Some (same_docs _ _ docs) ∙ sym (known_postings U p ku)
      ∙ ap (map.get U) (sym (append-nil p))
  agree (c ∷ t) p ms kt ku one two =
      ap (map.get T) (sym (append_assoc p (c ∷ []) t))
      ∙ below (λ q ns k l a b. agree t q ns k l a b) (get_member (encode_utf8 c) ms) refl
      ∙ ap (map.get U) (append_assoc p (c ∷ []) t)
    where
      below : ((q : Text) (ns : Members) → IsTrue (knows T q) → IsTrue (knows U q) → IsTree T q (object ns)
          → IsTree U q (object ns) → map.get T (q ++ t) ≡ map.get U (q ++ t))
          → (o : Option Data) → get_member (encode_utf8 c) ms ≡ o → map.get T ((p ++ c ∷ []) ++ t)
          ≡ map.get U ((p ++ c ∷ []) ++ t)
      below more None e =
          unknown_after T t_closed (p ++ c ∷ []) t (not_known _ (λ k. false≢true (sym (ap is_some e) ∙ (one.3 c).0 k)))
          ∙ sym (unknown_after U u_closed (p ++ c ∷ []) t
          (not_known _ (λ k. false≢true (sym (ap is_some e) ∙ (two.3 c).0 k))))
      below more (Some d) e =
          let first = part_at T p ms c d one.4 e in
          let second = part_at U p ms c d two.4 e in
          let is = tree_members T (p ++ c ∷ []) d first in
          more (p ++ c ∷ []) is.0 ((one.3 c).1 (ap is_some e)) ((two.3 c).1 (ap is_some e))
          (subst (IsTree T (p ++ c ∷ [])) is.1 first) (subst (IsTree U (p ++ c ∷ [])) is.1 second)

-- tables with one trie value are one
pub one_table : (T U : Table) → IsClosed T → IsClosed U → (v : Data) → IsTrieValue T v → IsTrieValue U v → T ≡ U
one_table T U t_closed u_closed v one two =
    let root : one.0 ≡ two.0 = let both = sym one.1 ∙ two.1 in (cc) in
    let second = subst (IsTree U []) (sym root) two.2 in
    let is = tree_members T [] one.0 one.2 in
    same_table T U (λ t. agree T U t_closed u_closed t [] is.0 t_closed.empty_known u_closed.empty_known
    (subst (IsTree T []) is.1 one.2) (subst (IsTree U []) is.1 second))

-- the table of nodes knows the beginnings of what it knows
pub closed_nodes : (root : Children) (nodes : List Node) → IsTrie root nodes → (names : Names)
    → IsClosed (table_of root nodes names)
closed_nodes root nodes trie names = record {
  empty_known = known_from root nodes trie names [] Root refl;
  beginnings = λ s t prefix known.
      let whole = known_to root nodes trie names t known in
      let front = walk_front (step_of root nodes) s prefix.0 Root whole.0 (ap (walk (step_of root nodes) Root) prefix.1
      ∙ whole.1) in
      known_from root nodes trie names s front.0 front.1;
}
