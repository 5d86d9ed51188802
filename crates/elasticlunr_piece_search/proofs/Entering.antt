-- Reading the entries of a piece, and adding them.
use Rattle.std.proofs.Common.{◌≡◌, ◌<◌, ℕ, zero, suc, List, [], ◌∷◌, ◌++◌, length, map, get_or, take, drop, Option, Some}
use Rattle.std.proofs.Common.{Result, Ok, Err, OnOk, refl, sym, ap, subst, ◌∙◌, arith, String, Global, string_bytes}
use Rattle.std.proofs.lemmas.List.{take-append-le, take_all}
use Rattle.std.specs.List.{AllByRecursion}
use Rattle.serde_json.specs.Data.{Data, member}
use Rattle.serde_json.specs.Find.{as_object}
use Rattle.serde_json.specs.View.{members_view, view}
use Rattle.serde_json.specs.declared.value.Value.{Value}
use Rattle.elasticlunr_error.specs.Text.{Bytes}
use Rattle.elasticlunr_json.specs.Maps.{members}
use Rattle.elasticlunr_piece_head.specs.Values.{array_of}
use Rattle.elasticlunr_trie.specs.Table.{Table, new_table}
use Rattle.elasticlunr_piece_search.specs.Entries.{AreEntriesAdded, AreNumbers, Entry, HasLists, IsEntryAdded, Numbered, list_value, piece_value, tokens_in}

-- a member of a piece
abbrev pub Member : Type 0
Member = String Global × Value

-- The members that are left go on what was added so far, and if all members are entries, so are those that are left.
pub record Entering (names : List Bytes) (all left : List Member) (start now : List Table) : Type 0 where
  pub many : length now ≡ length start
  pub forward : (es : List Entry) (end : List Table) → members_view left ≡ members (array_of list_value) es
      → AreEntriesAdded names es now end
      → (fs : List Entry) × (members_view all ≡ members (array_of list_value) fs) × AreEntriesAdded names fs start end
  pub back : (fs : List Entry) → AllByRecursion (HasLists (length names) (length start)) fs
      → members_view all ≡ members (array_of list_value) fs
      → (es : List Entry) × AllByRecursion (HasLists (length names) (length start)) es
      × (members_view left ≡ members (array_of list_value) es)

module _ (names : List Bytes) (all : List Member) (start : List Table) where
  pub begin : Entering names all all start start
  begin = record {
    many = refl;
    forward = λ es end is added. (es, is, added);
    back = λ fs few is. (fs, few, is);
  }

  pub enter : (m : Member) (left : List Member) (now next : List Table) (lists : List Numbered)
      → Entering names all (m ∷ left) start now → view m.1 ≡ array_of list_value lists
      → IsEntryAdded names (string_bytes m.0, lists) now next → Entering names all left start next
  enter m left now next lists so_far is added = record {
    many = added.many ∙ so_far.many;
    forward = λ es end left_is more. so_far.forward ((string_bytes m.0, lists) ∷ es) end
        (λ i. member (string_bytes m.0) (is i) (left_is i)) (next, added, more);
    back = λ fs few all_is. let (es, fewer, left_is) = so_far.back fs few all_is in rest es fewer left_is;
  }
    where
      rest : (es : List Entry) → AllByRecursion (HasLists (length names) (length start)) es
          → members_view (m ∷ left) ≡ members (array_of list_value) es
          → (gs : List Entry) × AllByRecursion (HasLists (length names) (length start)) gs
          × (members_view left ≡ members (array_of list_value) gs)
      rest [] few e = absurd (cc)
      rest (f ∷ es) few e =
          let later : members_view left ≡ members (array_of list_value) es = cc in (es, few.1, later)

  pub finish : (now : List Table) → Entering names all [] start now
      → (fs : List Entry) × (members_view all ≡ members (array_of list_value) fs) × AreEntriesAdded names fs start now
  finish now so_far = so_far.forward [] now refl refl

  -- what is no entry
  pub wrong : (m : Member) (left : List Member) (now : List Table) → Entering names all (m ∷ left) start now
      → ((lists : List Numbered) → length lists ≡ length now → AllByRecursion (AreNumbers (length names)) lists
      → view m.1 ≡ array_of list_value lists → ⊥) → (fs : List Entry)
      → AllByRecursion (HasLists (length names) (length start)) fs
      → members_view all ≡ members (array_of list_value) fs → ⊥
  wrong m left now so_far none fs few is = let (es, fewer, left_is) = so_far.back fs few is in by es fewer left_is
    where
      by : (es : List Entry) → AllByRecursion (HasLists (length names) (length start)) es
          → members_view (m ∷ left) ≡ members (array_of list_value) es → ⊥
      by [] few e = cc
      by (f ∷ es) few e =
          let here : view m.1 ≡ array_of list_value f.1 = cc in
          none f.1 (few.0.many ∙ sym so_far.many) few.0.numbers here

-- the tokens of the members
pub same_tokens : (ms : List Member) (es : List Entry) → members_view ms ≡ members (array_of list_value) es
    → map (λ e. e.0) es ≡ tokens_in ms
same_tokens [] [] is = refl
same_tokens [] (e ∷ es) is = absurd (cc)
same_tokens (m ∷ ms) [] is = absurd (cc)
same_tokens (m ∷ ms) (e ∷ es) is =
    let here : e.0 ≡ string_bytes m.0 = cc in
    let later : members_view ms ≡ members (array_of list_value) es = cc in
    λ i. here i ∷ same_tokens ms es later i

-- the members of a value that is a piece
pub its_members : (d : Data) (ms : List Member) (es : List Entry) → Some (members_view ms) ≡ as_object d
    → d ≡ piece_value es → members_view ms ≡ members (array_of list_value) es
its_members d ms es has is =
    let there : Some (members_view ms) ≡ Some (members (array_of list_value) es) = has ∙ ap as_object is in cc

pub one_value : (v w : Data) (o : Option Data) → o ≡ Some v → o ≡ Some w → v ≡ w
one_value v w o e f = let same : Some v ≡ Some w = sym e ∙ f in cc

-- lists that were added have numbers of references
all_lists : (names : List Bytes) (lists : List Numbered)
    → ((i : ℕ) → i < length lists → AreNumbers (length names) (get_or lists i []))
    → AllByRecursion (AreNumbers (length names)) lists
all_lists names [] each = tt
all_lists names (ps ∷ lists) each = (
  each zero (omega arith),
  all_lists names lists (λ i lt. each (suc i) (omega (arith, lt))),
)

pub added_each : (names : List Bytes) (es : List Entry) (old new : List Table) → AreEntriesAdded names es old new
    → AllByRecursion (HasLists (length names) (length old)) es
added_each names [] old new added = tt
added_each names (e ∷ es) old new (mid, first, rest) = (
  record {
    many = first.lists;
    numbers = all_lists names e.1 (λ i lt. let many = first.lists in
        (first.each i new_table (omega (arith, lt, many))).numbers);
  },
  subst (λ n. AllByRecursion (HasLists (length names) n) es) first.many (added_each names es mid new rest),
)

pub on_ok : {A E : Type 0} (r : Result A E) (P Q : Type 0) → (P → Q) → OnOk r P → OnOk r Q
on_ok (Ok x) P Q f p = f p
on_ok (Err e) P Q f p = tt

-- what is written back to a vector
pub written_back : {A : Type 0} (n : ℕ) (new old : List A) → n ≡ length old → length new ≡ length old
    → take n (new ++ drop (length new) old) ≡ new
written_back n new old is many = take-append-le n new (drop (length new) old) (omega (arith, is, many))
    ∙ take_all n new (omega (arith, is, many))
