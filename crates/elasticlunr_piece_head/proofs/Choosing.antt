-- Which pieces can have a token, where their first tokens rise.
use Rattle.std.proofs.Common.{Bool, ◌≡◌, ◌≢◌, ◌<◌, ◌≤◌, ◌+◌, ◌-◌, ◌↔◌, ℕ, Option, Some, None, List, [], length}
use Rattle.std.proofs.Common.{get_or, refl, sym, ◌∙◌, subst, arith, true, false, true≢false, ◌⊎◌, inl, inr}
use Rattle.std.proofs.Common.{Less}
use Rattle.std.specs.Prelude.{slice_get, nat_eq, IfSome}
use Rattle.std.specs.List.{starts_with}
use Rattle.std.specs.List.Sorted.{IsStrictlySortedBy}
use Rattle.std.proofs.lemmas.Bool.{cases_lt}
use Rattle.std.proofs.lemmas.Map.Keys.{Less-from_sorted}
use Rattle.std.proofs.lemmas.Option.{slice_get-get_or, slice_get_within, get_or_from_slice_get}
use Rattle.elasticlunr_error.specs.Text.{Bytes, text_cmp}
use Rattle.elasticlunr_piece_head.specs.Choice.{CanHave, Ends, IsNeeded, Splits}
use Rattle.elasticlunr_piece_head.proofs.Order.{begins_with_itself, below_not_below, below_through, between_begins, not_below_begun}
use Rattle.elasticlunr_piece_head.proofs.Order.{not_below_itself, not_both}

-- the next first token, if there is one, is above the token
next_above : (firsts : List Bytes) (token : Bytes) (n : ℕ)
    → (n < length firsts → text_cmp token (get_or firsts n []) ≡ Less)
    → IfSome (slice_get firsts n) (λ next. text_cmp token next ≡ Less)
next_above firsts token n above = by (slice_get firsts n) refl
  where
    by : (o : Option Bytes) → slice_get firsts n ≡ o → IfSome o (λ next. text_cmp token next ≡ Less)
    by None e = tt
    by (Some next) e = subst (λ text. text_cmp token text ≡ Less) (get_or_from_slice_get firsts n next [] e)
        (above (slice_get_within firsts n next e))

is_above : (firsts : List Bytes) (token : Bytes) (n : ℕ)
    → IfSome (slice_get firsts n) (λ next. text_cmp token next ≡ Less)
    → n < length firsts → text_cmp token (get_or firsts n []) ≡ Less
is_above firsts token n all lt = subst (λ o. IfSome o (λ next. text_cmp token next ≡ Less))
    (slice_get-get_or firsts n [] lt) all

first_at : (firsts : List Bytes) (token : Bytes) (n : ℕ) (can : CanHave firsts token n) → get_or firsts n [] ≡ can.first
first_at firsts token n can = get_or_from_slice_get firsts n can.first [] can.is_first

inside : (firsts : List Bytes) (token : Bytes) (n : ℕ) (can : CanHave firsts token n) → n < length firsts
inside firsts token n can = slice_get_within firsts n can.first can.is_first

module _ (firsts : List Bytes) (asked : Bytes) (place : ℕ) (splits : Splits firsts asked place) where
  -- the piece before the place of the token can have it
  can_have_asked : (n : ℕ) → n + 1 ≡ place → CanHave firsts asked n
  can_have_asked n is = record {
    first = get_or firsts n [];
    is_first = slice_get-get_or firsts n [] (omega (arith, splits.within));
    begins = splits.below n (omega arith);
    before = next_above firsts asked (n + 1) (λ lt. splits.above (n + 1) (omega arith) lt);
  }

  -- a piece that can have a token that is not below this one isn't before the piece that can have this one
  not_before : (token : Bytes) → text_cmp token asked ≢ Less → (n : ℕ) → CanHave firsts token n → place ≤ n + 1
  not_before token not_below n can = by (cases_lt (n + 1) place)
    where
      by : (n + 1 < place) ⊎ (place ≤ n + 1) → place ≤ n + 1
      by (inr le) = le
      by (inl lt) = absurd (splits.below (n + 1) lt (below_through asked token (get_or firsts (n + 1) []) not_below
          (is_above firsts token (n + 1) can.before (omega (arith, splits.within)))))

  -- no later piece can have the token itself
  not_after : (n : ℕ) → CanHave firsts asked n → n < place
  not_after n can = by (cases_lt n place)
    where
      by : (n < place) ⊎ (place ≤ n) → n < place
      by (inl lt) = lt
      by (inr le) = absurd (can.begins (subst (λ text. text_cmp asked text ≡ Less) (first_at firsts asked n can)
          (splits.above n le (inside firsts asked n can))))

  -- exactly the piece before the place can have the token
  pub needed_as_it_is : (n : ℕ) → ((place - 1 ≤ n) × (n < place)) ↔ IsNeeded firsts false asked n
  needed_as_it_is n = (forward, backward)
    where
      forward : (place - 1 ≤ n) × (n < place) → IsNeeded firsts false asked n
      forward h = let low = h.0 in let high = h.1 in (asked, refl, can_have_asked n (omega arith))

      backward : IsNeeded firsts false asked n → (place - 1 ≤ n) × (n < place)
      backward needed =
          let can : CanHave firsts asked n = subst (λ token. CanHave firsts token n) needed.1 needed.2 in
          let low : place ≤ n + 1 = not_before asked (not_below_itself asked) n can in
          (omega arith, not_after n can)

  module _ (end : ℕ) (order : IsStrictlySortedBy text_cmp firsts) (ends : Ends firsts asked place end) where
    -- a piece can have its first token
    can_have_first : (n : ℕ) → n < length firsts → CanHave firsts (get_or firsts n []) n
    can_have_first n lt = record {
      first = get_or firsts n [];
      is_first = slice_get-get_or firsts n [] lt;
      begins = not_below_itself (get_or firsts n []);
      before = next_above firsts (get_or firsts n []) (n + 1)
          (λ more. Less-from_sorted text_cmp firsts n (n + 1) [] order (omega arith) more);
    }

    -- a token that a later piece can have is not below the first token there
    not_below_end : (token : Bytes) (n : ℕ) → CanHave firsts token n → end ≤ n
        → text_cmp token (get_or firsts end []) ≢ Less
    not_below_end token n can le below = by (cases_lt end n)
      where
        here : text_cmp token (get_or firsts n []) ≢ Less
        here is = can.begins (subst (λ text. text_cmp token text ≡ Less) (first_at firsts token n can) is)

        by : (end < n) ⊎ (n ≤ end) → ⊥
        by (inl lt) = here (below_not_below token (get_or firsts end []) (get_or firsts n []) below
            (not_both (get_or firsts end []) (get_or firsts n [])
            (Less-from_sorted text_cmp firsts end n [] order lt (inside firsts token n can))))
        by (inr ge) = let same : end ≡ n = omega arith in
            here (subst (λ m. text_cmp token (get_or firsts m []) ≡ Less) same below)

    -- exactly the pieces from there to the end can have a token that begins with this one
    pub needed_longer : (n : ℕ) → ((place - 1 ≤ n) × (n < end)) ↔ IsNeeded firsts true asked n
    needed_longer n = (forward, backward)
      where
        forward : (place - 1 ≤ n) × (n < end) → IsNeeded firsts true asked n
        forward h = by (cases_lt n place)
          where
            by : (n < place) ⊎ (place ≤ n) → IsNeeded firsts true asked n
            by (inl lt) = let low = h.0 in (asked, begins_with_itself asked, can_have_asked n (omega arith))
            by (inr le) = let high = h.1 in
                (get_or firsts n [], ends.begin n le high, can_have_first n (omega (arith, ends.within)))

        backward : IsNeeded firsts true asked n → (place - 1 ≤ n) × (n < end)
        backward needed =
            let token = needed.0 in
            let low : place ≤ n + 1 = not_before token (not_below_begun token asked needed.1) n needed.2 in
            (omega arith, by token needed.1 needed.2 (cases_lt n end))
          where
            by : (token : Bytes) → starts_with nat_eq token asked ≡ true → CanHave firsts token n
                → (n < end) ⊎ (end ≤ n) → n < end
            by token begun can (inl lt) = lt
            by token begun can (inr le) =
                let lt : end < length firsts = omega (arith, inside firsts token n can) in
                let begins : starts_with nat_eq (get_or firsts end []) asked ≡ true
                = between_begins asked (get_or firsts end []) token begun
                (not_both asked (get_or firsts end []) (splits.above end ends.after lt))
                (not_below_end token n can le) in
                absurd (true≢false (sym begins ∙ ends.last lt))

-- as the token is asked for
pub chosen : (firsts : List Bytes) (asked : Bytes) (place : ℕ) (expand : Bool) (from end : ℕ) → from ≡ place - 1
    → Splits firsts asked place → IsStrictlySortedBy text_cmp firsts
    → ((expand ≡ true) × Ends firsts asked place end) ⊎ ((expand ≡ false) × (end ≡ place))
    → (n : ℕ) → ((from ≤ n) × (n < end)) ↔ IsNeeded firsts expand asked n
chosen firsts asked place true from end is splits order (inl how) n =
    subst (λ m. ((m ≤ n) × (n < end)) ↔ IsNeeded firsts true asked n) (sym is)
    (needed_longer firsts asked place splits end order how.1 n)
chosen firsts asked place true from end is splits order (inr how) n = absurd (true≢false how.0)
chosen firsts asked place false from end is splits order (inl how) n = absurd (true≢false (sym how.0))
chosen firsts asked place false from end is splits order (inr how) n =
    subst (λ m. ((m ≤ n) × (n < end)) ↔ IsNeeded firsts false asked n) (sym is)
    (subst (λ m. ((place - 1 ≤ n) × (n < m)) ↔ IsNeeded firsts false asked n) (sym how.1)
    (needed_as_it_is firsts asked place splits n))
