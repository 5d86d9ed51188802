-- Sets of references that are exactly those with a property.
use Rattle.std.proofs.Common.{◌≡◌, ◌≢◌, ◌↔◌, ℕ, Bool, true, List, [], ◌∷◌, is_some, refl, sym, ap, ◌∙◌, arith}
use Rattle.std.specs.Prelude.{Contains}
use Rattle.std.specs.List.{list_any, list_all}
use Rattle.std.specs.List.Sorted.{IsStrictlySortedBy}
use Rattle.std.proofs.lemmas.Cmp.{nat_list_eq_equiv}
use Rattle.std.proofs.lemmas.List.Elements.{All-contains, All-contains_itself, All-weaker}
use Rattle.std.proofs.lemmas.List.Folds.{Any-from_list_any, list_any_at}
use Rattle.std.proofs.lemmas.List.Sums.{AllPass-from_list_all, list_all-from_AllPass}
use Rattle.std.proofs.lemmas.Map.Views.{Contains-from_any, list_any-from_Contains}
use Rattle.std.proofs.lemmas.Slice.Eq.{bytes_eq-Decides}
use Rattle.elasticlunr_text.specs.Text.{Text, Bytes, text_cmp, is_listed}
use Rattle.elasticlunr_trie.specs.Table.{Table, posting}
use Rattle.elasticlunr_trie.proofs.Keys.{no_keys_sorted}
use Rattle.elasticlunr.specs.Found.{AreExactly}
use Rattle.elasticlunr_search.specs.Tries.{HaveAny, HaveAll}

-- a text stands in a list exactly if it is listed
pub listed : (x : List ℕ) (xs : List (List ℕ)) → Contains xs x ↔ (is_listed x xs ≡ true)
listed x xs = (
  λ c. list_any-from_Contains nat_list_eq_equiv x xs c,
  λ e. Contains-from_any
      (λ y z. (bytes_eq-Decides y z).0) x xs e,
)

-- those with the one property are those with the other, where the two go together
pub alike : (P Q : Bytes → Type 0) (rs : List Bytes) → AreExactly P rs → ((r : Bytes) → P r ↔ Q r) → AreExactly Q rs
alike P Q rs those same = record {
  sorted = those.sorted;
  exact =
      λ r. (λ c. (same r).0 ((those.exact r).0 c), λ q. (those.exact r).1 ((same r).1 q));
}

-- a sorted list that has what passes the test
pub are_those : (P : Bytes → Type 0) (p : Bytes → Bool) → ((r : Bytes) → (p r ≡ true) ↔ P r) → (rs : List Bytes)
    → IsStrictlySortedBy text_cmp rs → ((r : Bytes) → is_listed r rs ≡ p r) → AreExactly P rs
are_those P p tells rs order has = record {
  sorted = order;
  exact = λ r. (
    λ c. (tells r).0 (sym (has r) ∙ (listed r rs).0 c),
    λ h. (listed r rs).1
        (has r ∙ (tells r).1 h),
  );
}

pub any_tells : {A : Type 0} (p : A → Bool) (ts : List A) → (list_any p ts ≡ true)
    ↔ ((t : A) × Contains ts t × (p t ≡ true))
any_tells p ts = (
  λ e. let a = Any-from_list_any p ts e in (a.1, (a.0, a.2, a.3), a.4),
  λ h. list_any_at p ts h.1.0 h.0
      h.1.1 (ap p h.1.2 ∙ h.2),
)

pub all_tells : (p : Text → Bool) (ts : List Text) → (list_all p ts ≡ true) ↔ ((t : Text) → Contains ts t → p t ≡ true)
all_tells p ts = (
  λ e t c. All-contains (λ x. p x ≡ true) ts t (AllPass-from_list_all p ts e) c,
  λ h. list_all-from_AllPass p ts (All-weaker (Contains ts) (λ x. p x ≡ true) (λ x c. h x c) ts
      (All-contains_itself ts)),
)

pub have_any : (table : Table) (ts : List Text) (rs : List Bytes) → IsStrictlySortedBy text_cmp rs
    → ((r : Bytes) → is_listed r rs ≡ list_any (λ t. is_some (posting table t r)) ts) → HaveAny table ts rs
have_any table ts rs order has = are_those _ (λ r. list_any (λ t. is_some (posting table t r)) ts)
    (λ r. any_tells (λ t. is_some (posting table t r)) ts) rs order has

pub filled : {X : Type 0} (x : X) (xs : List X) → x ∷ xs ≢ []
filled x xs e = cc

pub have_all : (table : Table) (t : Text) (ts : List Text) (rs : List Bytes) → IsStrictlySortedBy text_cmp rs
    → ((r : Bytes) → is_listed r rs ≡ list_all (λ t. is_some (posting table t r)) (t ∷ ts)) → HaveAll table (t ∷ ts) rs
have_all table t ts rs order has = are_those _ (λ r. list_all (λ t. is_some (posting table t r)) (t ∷ ts))
    (λ r. (
      λ e. (filled t ts, (all_tells (λ t. is_some (posting table t r)) (t ∷ ts)).0 e),
      λ h. (all_tells (λ t. is_some (posting table t r)) (t ∷ ts)).1 h.1,
    )) rs order has

-- no token finds nothing
pub have_none : (table : Table) → HaveAll table [] []
have_none table = record {
  sorted = no_keys_sorted;
  exact =
      λ r. (λ c. absurd (omega (arith, c.1)), λ h. absurd (h.0 refl));
}
