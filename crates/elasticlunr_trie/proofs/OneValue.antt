-- A table has one trie value at most.
use Rattle.std.proofs.Common.{◌≡◌, false, ◌||◌, ◌⊎◌, inl, inr, ℕ, List, [], ◌∷◌, ◌++◌, Option, Some, None, is_some}
use Rattle.std.proofs.Common.{codes, encode_utf8, refl, sym, ap, subst, ◌∙◌, Less, Equal, Greater}
use mathlib.Core.Bool.{false≢true}
use Rattle.std.proofs.lemmas.Cmp.{nat_list_cmp_total}
use Rattle.std.specs.Ordering.{nat_cmp, match_ordering, ordering_reverse, is_eq}
use Rattle.std.specs.Cmp.Lexicographic.{slice_cmp}
use Rattle.std.specs.FinMap.{entries, len}
use Rattle.serde_json.specs.Written.{has_float, members_have_float}
use Rattle.serde_json.specs.Data.{Data, null, boolean, number, unsigned, string, array, object, Members, no_members}
use Rattle.serde_json.specs.Data.{member}
use Rattle.serde_json.specs.Find.{get_member}
use Rattle.elasticlunr_error.specs.Text.{Text}
use Rattle.elasticlunr_trie_nodes.specs.Table.{Table, postings}
use Rattle.elasticlunr_trie.specs.Tree.{frequency, frequencies, IsTree, AreParts, IsBelow, HasKeysInOrder, IsTrieValue}
use Rattle.elasticlunr_json.proofs.Texts.{same_or_not, text_tie}
use Rattle.elasticlunr_trie.proofs.Finishing.{some_of}
use Rattle.elasticlunr_trie.proofs.Printed.{get_here, get_other}
use Rattle.elasticlunr_json.proofs.Keyed.{bare_keyed}
use Rattle.elasticlunr_trie.proofs.Unique.{part_at}

below_none : (k : List ℕ) (ms : Members) → IsBelow k ms → get_member k ms ≡ None
below_none k no_members h = refl
below_none k (member l d ms) h = ap (λ o. match_ordering o (get_member k ms) (Some d) (get_member k ms)) h.0
    ∙ below_none k ms h.1

pub further : (k l : List ℕ) (ms : Members) → slice_cmp nat_cmp k l ≡ Less → IsBelow l ms → IsBelow k ms
further k l no_members h below = tt
further k l (member m d ms) h below = (nat_list_cmp_total.trans k l m h below.0, further k l ms h below.1)

-- members in order are told by what is found at each key
pub same_by_get : (ms ns : Members) → HasKeysInOrder ms → HasKeysInOrder ns
    → ((k : List ℕ) → get_member k ms ≡ get_member k ns) → ms ≡ ns
same_by_get no_members no_members one two same = refl
same_by_get no_members (member l e ns) one two same = let bad : None ≡ Some e = same l ∙ get_here l e ns in absurd (cc)
same_by_get (member k d ms) no_members one two same = let bad : None ≡ Some d = sym (same k)
    ∙ get_here k d ms in absurd (cc)
same_by_get (member k d ms) (member l e ns) one two same =
    elim (slice_cmp nat_cmp k l) as (λ o. slice_cmp nat_cmp k l ≡ o → member k d ms ≡ member l e ns) [
      | Less ↦ λ is. let bad : Some d ≡ None = sym (get_here k d ms) ∙ same k
          ∙ below_none k (member l e ns) (is, further k l ns is two.0) in absurd (cc)
      | Equal ↦ λ is.
          let key : k ≡ l = text_tie k l (ap is_eq is) in
          let values : Some d ≡ Some e = sym (get_here k d ms) ∙ same k ∙ ap (λ q. get_member q (member l e ns)) key
          ∙ get_here l e ns in
          let value : d ≡ e = cc in
          let rest : ms ≡ ns = same_by_get ms ns one.1 two.1 (λ q. elim (same_or_not q k) [
            | inl here ↦ ap (λ x. get_member x ms) here ∙ below_none k ms one.0 ∙ sym (below_none l ns two.0)
                ∙ ap (λ x. get_member x ns) (sym (here ∙ key))
            | inr apart ↦ sym (get_other q k d ms apart) ∙ same q ∙ get_other q l e ns (λ h. apart (h ∙ sym key))
          ]) in
          λ i. member (key i) (value i) (rest i)
      | Greater ↦ λ is.
          let up : slice_cmp nat_cmp l k ≡ Less = nat_list_cmp_total.antisymm l k ∙ ap ordering_reverse is in
          let bad : None ≡ Some e = sym (below_none l (member k d ms) (up, further l k ms up one.0)) ∙ same l
          ∙ get_here l e ns in absurd (cc)
    ] refl

-- the value of each member has the property
abbrev Each : (Data → Type 0) → Members → Type 0
Each Q no_members = Unit {0}
Each Q (member k d ms) = Q d × Each Q ms

each_at : (Q : Data → Type 0) (ms : Members) (k : List ℕ) (x : Data) → Each Q ms → get_member k ms ≡ Some x → Q x
each_at Q no_members k x all e = absurd (cc)
each_at Q (member l d ms) k x all e = elim (same_or_not k l) [
  | inl same ↦
      let both : Some d ≡ Some x = sym (get_here l d ms) ∙ ap (λ q. get_member q (member l d ms)) (sym same) ∙ e in
      let is : d ≡ x = cc in
      subst Q is all.0
  | inr apart ↦ each_at Q ms k x all.1 (sym (get_other k l d ms apart) ∙ e)
]

-- what is found at no key is nowhere
no_float_members : (ms : Members) → HasKeysInOrder ms
    → ((k : List ℕ) (x : Data) → get_member k ms ≡ Some x → has_float x ≡ false) → members_have_float ms ≡ false
no_float_members no_members order none = refl
no_float_members (member k d ms) order none =
    λ i. none k d (get_here k d ms) i || no_float_members ms order.1 (λ q x e. elim (same_or_not q k) [
      | inl same ↦ let bad : None ≡ Some x = sym (below_none k ms order.0) ∙ ap (λ y. get_member y ms) (sym same)
          ∙ e in absurd (cc)
      | inr apart ↦ none q x (get_other q k d ms apart ∙ e)
    ]) i

module _ (T : Table) where
  -- what a key of a tree is
  key_is : (p : Text) (ms : Members) (k : List ℕ) (x : Data) → AreParts T p ms → get_member k ms ≡ Some x
      → (k ≡ codes "docs") ⊎ (k ≡ codes "df") ⊎ ((c : ℕ) × (k ≡ encode_utf8 c))
  key_is p no_members k x parts e = absurd (cc)
  key_is p (member l d ms) k x parts e = elim (same_or_not k l) [
    | inl same ↦ elim parts.0 [
      | inl docs ↦ inl (same ∙ docs)
      | inr (inl df) ↦ inr (inl (same ∙ df))
      | inr (inr letter) ↦ inr (inr (letter.0, same ∙ letter.1))
    ]
    | inr apart ↦ key_is p ms k x parts.1 (sym (get_other k l d ms apart) ∙ e)
  ]

  abbrev IsOnly : Data → Type 0
  IsOnly d = (p : Text) (e : Data) → IsTree T p d → IsTree T p e → d ≡ e

  module _ (p : Text) (ms ns : Members) (all : Each IsOnly ms) (one : IsTree T p (object ms))
      (two : IsTree T p (object ns)) where
    none_too : (k : List ℕ) → get_member k ms ≡ None → (o : Option Data) → get_member k ns ≡ o → None ≡ o
    none_too k none None e = refl
    none_too k none (Some y) e = elim (key_is p ns k y two.4 e) [
      | inl docs ↦ let bad = sym none ∙ ap (λ q. get_member q ms) docs ∙ one.1 in absurd (cc)
      | inr (inl df) ↦ let bad = sym none ∙ ap (λ q. get_member q ms) df ∙ one.2 in absurd (cc)
      | inr (inr letter) ↦
          let there = (two.3 letter.0).1 (ap is_some (ap (λ q. get_member q ns) (sym letter.1) ∙ e)) in
          absurd (false≢true (sym (ap is_some (ap (λ q. get_member q ms) (sym letter.1) ∙ none))
          ∙ (one.3 letter.0).0 there))
    ]

    agree : (k : List ℕ) (o : Option Data) → get_member k ms ≡ o → get_member k ms ≡ get_member k ns
    agree k None e = e ∙ none_too k e (get_member k ns) refl
    agree k (Some x) e = elim (key_is p ms k x one.4 e) [
      | inl docs ↦ ap (λ q. get_member q ms) docs ∙ one.1 ∙ sym two.1 ∙ ap (λ q. get_member q ns) (sym docs)
      | inr (inl df) ↦ ap (λ q. get_member q ms) df ∙ one.2 ∙ sym two.2 ∙ ap (λ q. get_member q ns) (sym df)
      | inr (inr letter) ↦
          let c = letter.0 in
          let mine = ap (λ q. get_member q ms) (sym letter.1) ∙ e in
          let there = (one.3 c).1 (ap is_some mine) in
          let other = some_of (get_member (encode_utf8 c) ns) ((two.3 c).0 there) in
          let same = each_at IsOnly ms k x all e (p ++ c ∷ []) other.0 (part_at T p ms c x one.4 mine)
          (part_at T p ns c other.0 two.4 other.1) in
          e ∙ ap Some same ∙ sym other.1 ∙ ap (λ q. get_member q ns) (sym letter.1)
    ]

    same_members : ms ≡ ns
    same_members = same_by_get ms ns one.0 two.0 (λ k. agree k (get_member k ms) refl)

  object_only : (p : Text) (ms : Members) (e : Data) → Each IsOnly ms → IsTree T p (object ms) → IsTree T p e
      → object ms ≡ e
  object_only p ms null all one two = absurd two
  object_only p ms (boolean b) all one two = absurd two
  object_only p ms (number n) all one two = absurd two
  object_only p ms (string s) all one two = absurd two
  object_only p ms (array ds) all one two = absurd two
  object_only p ms (object ns) all one two = ap object (same_members p ms ns all one two)

  mutual
    only : (d : Data) → IsOnly d
    only null p e one two = absurd one
    only (boolean b) p e one two = absurd one
    only (number n) p e one two = absurd one
    only (string s) p e one two = absurd one
    only (array ds) p e one two = absurd one
    only (object ms) p e one two = object_only p ms e (all_only ms) one two

    all_only : (ms : Members) → Each IsOnly ms
    all_only no_members = tt
    all_only (member k d ms) = (only d, all_only ms)

  -- the trie value of a table is one
  pub one_value : (v w : Data) → IsTrieValue T v → IsTrieValue T w → v ≡ w
  one_value v w one two = one.1 ∙ ap (λ d. object (member (codes "root") d no_members))
      (only one.0 [] two.0 one.2 two.2) ∙ sym two.1

  abbrev IsWhole : Data → Type 0
  IsWhole d = (p : Text) → IsTree T p d → has_float d ≡ false

  whole_object : (p : Text) (ms : Members) → Each IsWhole ms → IsTree T p (object ms) → members_have_float ms ≡ false
  whole_object p ms all tree = no_float_members ms tree.0 (λ k x e. elim (key_is p ms k x tree.4 e) [
    | inl docs ↦
        let both : Some x ≡ Some (object (frequencies (entries (postings T p)))) = sym e
        ∙ ap (λ q. get_member q ms) docs ∙ tree.1 in
        let is : x ≡ object (frequencies (entries (postings T p))) = cc in
        ap has_float is ∙ bare_keyed frequency (λ n. refl) (postings T p)
    | inr (inl df) ↦
        let both : Some x ≡ Some (number (unsigned (len (postings T p)))) = sym e ∙ ap (λ q. get_member q ms) df
        ∙ tree.2 in
        let is : x ≡ number (unsigned (len (postings T p))) = cc in
        ap has_float is
    | inr (inr letter) ↦ each_at IsWhole ms k x all e (p ++ letter.0 ∷ [])
        (part_at T p ms letter.0 x tree.4 (ap (λ q. get_member q ms) (sym letter.1) ∙ e))
  ])

  mutual
    whole : (d : Data) → IsWhole d
    whole null p tree = absurd tree
    whole (boolean b) p tree = absurd tree
    whole (number n) p tree = absurd tree
    whole (string s) p tree = absurd tree
    whole (array ds) p tree = absurd tree
    whole (object ms) p tree = whole_object p ms (all_whole ms) tree

    all_whole : (ms : Members) → Each IsWhole ms
    all_whole no_members = tt
    all_whole (member k d ms) = (whole d, all_whole ms)

  -- the trie value of a table holds no float
  pub no_float : (v : Data) → IsTrieValue T v → has_float v ≡ false
  no_float v value = ap has_float value.1 ∙ (λ i. whole value.0 [] value.2 i || false)
