-- Names that were seen, and whether they differ.
use Rattle.std.proofs.Common.{◌≡◌, ◌≢◌, ◌<◌, ◌≤◌, ◌+◌, ◌↔◌, ◌⊎◌, inl, inr, if◌then◌else◌, ℕ, zero, suc, Bool, true, false, true≢false}
use Rattle.std.proofs.Common.{not, List, [], ◌∷◌, length, get_or, refl, sym, ap, subst, ◌∙◌, arith, Less, Equal, Greater}
use Rattle.std.specs.Borrow.{Bor}
use Rattle.std.specs.BTreeSet.{BTreeSet, Updates, contains}
use Rattle.std.specs.Ordering.{is_eq}
use Rattle.std.specs.Prelude.{IsTrue}
use Rattle.std.specs.List.{AllPairs}
use Rattle.std.specs.declared.cmp.Ordering.{Ordering}
use Rattle.std.proofs.lemmas.Bool.{cases_lt}
use Rattle.std.proofs.lemmas.Cmp.{nat_list_cmp_total, tied_itself}
use Rattle.std.proofs.lemmas.Map.Lookups.{exact_bytes}
use Rattle.elasticlunr_error.specs.Text.{Bytes, text_cmp}

abbrev by_bytes : Bor Bytes → Bor Bytes → Ordering
by_bytes x y = text_cmp x.now y.now

-- so many names differ, and the set has them and no others
abbrev pub AreSeen : List Bytes → BTreeSet (Bor Bytes) → ℕ → Type 0
AreSeen names seen n = ((a b : ℕ) → a < b → b < n → get_or names a [] ≢ get_or names b [])
    × ((q : Bor Bytes) → IsTrue (contains by_bytes seen q) ↔ ((k : ℕ) × (k < n) × (get_or names k [] ≡ q.now)))

pub not_false : (b : Bool) → b ≡ not true → (c : Bool) → b ≡ not c → c ≡ true
not_false b e true f = refl
not_false b e false f = absurd (true≢false (sym f ∙ e))

pub not_true : (b : Bool) → b ≡ true → (c : Bool) → b ≡ not c → c ≡ false
not_true b e false f = refl
not_true b e true f = absurd (true≢false (sym e ∙ f))

module _ (names : List Bytes) (s n : BTreeSet (Bor Bytes)) (i : ℕ) (name : Bor Bytes) where
  pub one_more_seen : Updates by_bytes s n name true → contains by_bytes s name ≡ false → get_or names i [] ≡ name.now
      → AreSeen names s i → AreSeen names n (i + 1)
  one_more_seen updates new here so_far = (differ, λ q. (there q (text_cmp name.now q.now) refl, λ found. back q found))
    where
      has : (q : Bor Bytes) (b : Bool) → is_eq (text_cmp name.now q.now) ≡ b
          → contains by_bytes n q ≡ (if b then true else contains by_bytes s q)
      has q b e = updates.0 q ∙ ap (λ b. if b then true else contains by_bytes s q) e

      older : (q : Bor Bytes) → IsTrue (contains by_bytes s q) → (k : ℕ) × (k < i + 1) × (get_or names k [] ≡ q.now)
      older q h = let found = (so_far.1 q).0 h in let low = found.1 in (found.0, omega (arith, low), found.2)

      there : (q : Bor Bytes) (o : Ordering) → text_cmp name.now q.now ≡ o → IsTrue (contains by_bytes n q)
          → (k : ℕ) × (k < i + 1) × (get_or names k [] ≡ q.now)
      there q Equal e h = (i, omega arith, here ∙ exact_bytes name.now q.now e)
      there q Less e h = older q (subst IsTrue (has q false (ap is_eq e)) h)
      there q Greater e h = older q (subst IsTrue (has q false (ap is_eq e)) h)

      kept : (q : Bor Bytes) (b : Bool) → is_eq (text_cmp name.now q.now) ≡ b → IsTrue (contains by_bytes s q)
          → IsTrue (contains by_bytes n q)
      kept q true e h = has q true e
      kept q false e h = has q false e ∙ h

      by : (q : Bor Bytes) (k : ℕ) → k < i + 1 → get_or names k [] ≡ q.now → (k < i) ⊎ (i ≤ k)
          → IsTrue (contains by_bytes n q)
      by q k low is (inl lt) = kept q (is_eq (text_cmp name.now q.now)) refl ((so_far.1 q).1 (k, lt, is))
      by q k low is (inr ge) =
          let same : k ≡ i = omega (arith, low, ge) in
          let one : name.now ≡ q.now = sym here ∙ ap (λ m. get_or names m []) (sym same) ∙ is in
          has q true (ap (λ t. is_eq (text_cmp name.now t)) (sym one) ∙ ap is_eq (tied_itself nat_list_cmp_total name.now))

      back : (q : Bor Bytes) → ((k : ℕ) × (k < i + 1) × (get_or names k [] ≡ q.now)) → IsTrue (contains by_bytes n q)
      back q (k, low, is) = by q k low is (cases_lt k i)

      apart : (a b : ℕ) → a < b → b < i + 1 → (b < i) ⊎ (i ≤ b) → get_or names a [] ≢ get_or names b []
      apart a b lt low (inl l) same = so_far.0 a b lt l same
      apart a b lt low (inr ge) same =
          let last : b ≡ i = omega (arith, low, ge) in
          true≢false (sym ((so_far.1 name).1
          (a, omega (arith, lt, last), same ∙ ap (λ m. get_or names m []) last ∙ here)) ∙ new)

      differ : (a b : ℕ) → a < b → b < i + 1 → get_or names a [] ≢ get_or names b []
      differ a b lt low = apart a b lt low (cases_lt b i)

any_default : (xs : List Bytes) (i : ℕ) (d : Bytes) → i < length xs → get_or xs i d ≡ get_or xs i []
any_default [] i d lt = absurd (omega (arith, lt))
any_default (x ∷ xs) zero d lt = refl
any_default (x ∷ xs) (suc i) d lt = any_default xs i d (omega (arith, lt))

-- all differ
pub all_seen : (names : List Bytes) (s : BTreeSet (Bor Bytes)) (n : ℕ) → length names ≤ n → AreSeen names s n
    → AllPairs (λ name other. name ≢ other) names
all_seen names s n past seen i j d lt low same = seen.0 i j lt (omega (arith, low, past))
    (sym (any_default names i d (omega (arith, lt, low))) ∙ same ∙ any_default names j d low)

-- a name that was seen already
pub seen_twice : (names : List Bytes) (s : BTreeSet (Bor Bytes)) (i : ℕ) (name : Bor Bytes) → i < length names
    → contains by_bytes s name ≡ true → get_or names i [] ≡ name.now → AreSeen names s i
    → AllPairs (λ name other. name ≢ other) names → ⊥
seen_twice names s i name low has here seen differ =
    let found = (seen.1 name).0 has in differ found.0 i [] found.1 low (found.2 ∙ sym here)
