-- The first keys of those that were seen.
use Rattle.std.proofs.Common.{◌≡◌, ◌<◌, ◌≤◌, ◌+◌, ℕ, Bool, false, true, Less, Equal, Greater, List, [], ◌∷◌, ◌++◌, length, get_or, map, take, All, refl, ap}
use Rattle.std.proofs.Common.{inl, inr, subst, sym, ◌∙◌, arith, append-nil}
use Rattle.std.specs.Prelude.{◌⊎◌, ◌↔◌, Option, Some, None, IsSome, IfSome}
use Rattle.std.proofs.lemmas.Bool.{cases_lt}
use Rattle.std.proofs.lemmas.Cmp.{back_total, nat_list_cmp_total, on_total, then_total}
use Rattle.std.proofs.lemmas.Float.{nan_last}
use Rattle.std.proofs.lemmas.List.{map-append, take_all, take_at, take_more}
use Rattle.std.proofs.lemmas.List.Elements.{All-cons, All-from_recursion, All-head, All-nil, All-same}
use Rattle.std.proofs.lemmas.List.Elements.{All-tail, All-weaker, at_read}
use Rattle.std.proofs.lemmas.List.Sorted.{All-permutation, IsPermutation-append, IsPermutation-append_left, IsPermutation-map}
use Rattle.std.proofs.lemmas.List.Sorted.{IsPermutation-cons, IsPermutation-middle, IsPermutation-push_more}
use Rattle.std.proofs.lemmas.List.Sorted.{IsPermutation-refl, IsPermutation-sym}
use Rattle.std.proofs.lemmas.List.Sorted.{IsPermutation-trans, length_permutation, ranks_by}
use Rattle.std.specs.Bool.{MatchBool}
use Rattle.std.specs.Borrow.{Bor}
use Rattle.std.specs.BinaryHeap.{IsHeap, PopsGreatest}
use Rattle.std.specs.Cmp.{IsStrictWeakOrder, IsTotalOrder, bool_cmp_total}
use Rattle.std.specs.Float.{Float}
use Rattle.std.specs.List.{HoldsAt}
use Rattle.std.specs.List.Sorted.{IsPermutation, IsSorted}
use Rattle.std.specs.Ordering.{is_lt, is_some_and, ordering_then, partial_ordering_then}
use Rattle.std.specs.declared.cmp.Ordering.{Ordering}
use Rattle.elasticlunr_error.specs.Text.{Bytes}
use Rattle.elasticlunr_ranking.specs.Held.{told}
use Rattle.elasticlunr_ranking.specs.Keys.{IsKey, IsLastOf, KeepsFirst, Key, key_cmp, told_key}
use Rattle.elasticlunr_ranking.specs.Order.{best_first}
use Rattle.elasticlunr_ranking.proofs.Ranked.{first_told, in_order}
use Rattle.elasticlunr_ranking.proofs.Sorting.{joined, sorted_of, sorted_of-nil, sorted_permutation}
use Rattle.elasticlunr_ranking.proofs.Sorting.{sorted_rises}

keys_total : IsTotalOrder key_cmp
keys_total = then_total (then_total (on_total (λ (k : Key). k.0) bool_cmp_total)
    (on_total (λ (k : Key). k.1.0.0) (back_total nan_last))) (on_total (λ (k : Key). k.2.now) nat_list_cmp_total)

pub keys_rank : IsStrictWeakOrder (λ (x y : Key). is_lt (key_cmp x y))
keys_rank = ranks_by keys_total (λ k. k)

-- of the documents that were seen these keys are kept, and these were dropped
pub record IsSplit (limit : ℕ) (seen : List (Bytes × Float)) (kept dropped : List Key) : Type 0 where
  pub each : IsPermutation seen (map told_key (kept ++ dropped))
  pub keys : All IsKey (kept ++ dropped)
  pub small : length kept ≤ limit
  pub full : (dropped ≡ []) ⊎ (length kept ≡ limit)
  pub later : All (λ last. IsLastOf last kept) dropped

pub none_seen : (limit : ℕ) → IsSplit limit [] [] []
none_seen limit = record {
  each = IsPermutation-map told_key [] [] (record { moves = []; below = tt; is = refl });
  keys = All-nil IsKey;
  small = omega arith;
  full = inl refl;
  later = All-nil (λ last. IsLastOf last []);
}

module _ (limit : ℕ) (seen : List (Bytes × Float)) (kept dropped : List Key) (split : IsSplit limit seen kept dropped)
  where
    module _ (key : Key) (is : IsKey key) (new : List Key) (keeps : KeepsFirst limit kept key new) where
      more : (dropped' : List Key) → IsPermutation (key ∷ (kept ++ dropped)) (new ++ dropped') → length new ≤ limit
          → (dropped' ≡ []) ⊎ (length new ≡ limit) → All (λ last. IsLastOf last new) dropped'
          → IsSplit limit (seen ++ told_key key ∷ []) new dropped'
      more dropped' moves small full later = record {
        each = IsPermutation-push_more seen (map told_key (kept ++ dropped)) (map told_key (new ++ dropped'))
            (told_key key) split.each (IsPermutation-map told_key (key ∷ (kept ++ dropped)) (new ++ dropped') moves);
        keys = All-permutation IsKey (key ∷ (kept ++ dropped)) (new ++ dropped') moves
            (All-cons IsKey key (kept ++ dropped) is split.keys);
        small = small;
        full = full;
        later = later;
      }

      with_room : length kept < limit → IsSplit limit (seen ++ told_key key ∷ []) new dropped
      with_room room =
          let moves = keeps.room room in
          let none : dropped ≡ [] = elim split.full [ inl e ↦ e | inr e ↦ absurd (omega arith) ] in
          more dropped (IsPermutation-append_left dropped (key ∷ kept) new moves)
          (omega (arith, length_permutation (key ∷ kept) new moves)) (inl none)
          (All-same (λ last. IsLastOf last new) dropped [] none (All-nil (λ last. IsLastOf last new)))

      when_full : limit ≤ length kept → (dropped' : List Key) × IsSplit limit (seen ++ told_key key ∷ []) new dropped'
      when_full full =
          let out = keeps.full full in
          let small = split.small in
          let count : length (out.0 ∷ new) ≡ length (key ∷ kept) =
          length_permutation (key ∷ kept) (out.0 ∷ new) out.1 in
          let as_many : length new ≡ limit = omega arith in (
            out.0 ∷ dropped,
            more (out.0 ∷ dropped)
                (IsPermutation-trans (key ∷ (kept ++ dropped)) (out.0 ∷ (new ++ dropped)) (new ++ out.0 ∷ dropped)
                (IsPermutation-append_left dropped (key ∷ kept) (out.0 ∷ new) out.1)
                (IsPermutation-sym (new ++ out.0 ∷ dropped) (out.0 ∷ (new ++ dropped))
                (IsPermutation-middle new out.0 dropped)))
                (omega arith) (inr as_many)
                (All-cons (λ last. IsLastOf last new) out.0 dropped out.2
                (All-weaker (λ last. IsLastOf last kept) (λ last. IsLastOf last new) (keeps.later full) dropped
                split.later)),
          )

      -- one document more
      pub split_more : (dropped' : List Key) × IsSplit limit (seen ++ told_key key ∷ []) new dropped'
      split_more = elim (cases_lt (length kept) limit) [
        | inl room ↦ (dropped, with_room room)
        | inr full ↦ when_full full
      ]

    -- the kept ones in order are the first of all in order
    pub first_of_all : (sorted : List Key) → IsPermutation kept sorted → IsSorted key_cmp sorted
        → (all : List (Bytes × Float)) × IsPermutation seen all × IsSorted best_first all
        × (map told_key sorted ≡ take limit all)
    first_of_all sorted moves up =
        let lt = λ (x y : Key). is_lt (key_cmp x y) in
        let rest = sorted_of lt dropped in
        let moved : IsPermutation (kept ++ dropped) (sorted ++ rest) =
        IsPermutation-append kept sorted dropped rest moves (sorted_permutation lt dropped) in
        let count : length sorted ≡ length kept = length_permutation kept sorted moves in
        let above = All-permutation (λ last. IsLastOf last sorted) dropped rest (sorted_permutation lt dropped)
        (All-weaker (λ last. IsLastOf last kept) (λ last. IsLastOf last sorted)
        (λ last. All-permutation (λ key. lt last key ≡ false) kept sorted moves) dropped split.later) in
        let small = split.small in
        let first : take limit (sorted ++ rest) ≡ sorted = elim split.full [
          | inl none ↦ ap (λ d. take limit (sorted ++ d)) (ap (sorted_of lt) none ∙ sorted_of-nil lt)
              ∙ ap (take limit) (append-nil sorted) ∙ take_all limit sorted (omega arith)
          | inr full ↦ take_at sorted rest limit (omega arith)
        ] in (
          map told_key (sorted ++ rest),
          IsPermutation-trans seen (map told_key (kept ++ dropped)) (map told_key (sorted ++ rest)) split.each
              (IsPermutation-map told_key (kept ++ dropped) (sorted ++ rest) moved),
          in_order (sorted ++ rest) (All-permutation IsKey (kept ++ dropped) (sorted ++ rest) moved split.keys)
              (joined lt sorted rest up (sorted_rises lt keys_rank dropped) above),
          ap (map told_key) (sym first) ∙ first_told limit (sorted ++ rest),
        )

module _ (limit : ℕ) (old : List Key) (key : Key) (full : limit ≤ length old) where
  -- a key that comes after all takes no place
  pub not_kept : IsLastOf key old → KeepsFirst limit old key old
  not_kept after = record {
    room = λ room. absurd (omega arith);
    full = λ _. (key, IsPermutation-refl (key ∷ old), after);
    later = λ _ later below. below;
  }

  -- one that comes before the last takes its place
  pub replaced : (last : Key) (rest new : List Key) → is_lt (key_cmp key last) ≡ true → IsLastOf last old
      → IsPermutation old (last ∷ rest) → IsPermutation (key ∷ rest) new → KeepsFirst limit old key new
  replaced last rest new first above out moves =
      let P = λ (later : Key) (k : Key). is_lt (key_cmp later k) ≡ false in
      let after : is_lt (key_cmp last key) ≡ false = keys_rank.one_way key last first in
      record {
        room = λ room. absurd (omega arith);
        full = λ _. (
          last,
          IsPermutation-trans (key ∷ old) (key ∷ last ∷ rest) (last ∷ new)
              (IsPermutation-cons key old (last ∷ rest) out)
              (IsPermutation-trans (key ∷ last ∷ rest) (last ∷ key ∷ rest) (last ∷ new)
              (IsPermutation-middle (key ∷ []) last rest) (IsPermutation-cons last (key ∷ rest) new moves)),
          All-permutation (P last) (key ∷ rest) new moves (All-cons (P last) key rest after
              (All-tail (P last) last rest (All-permutation (P last) old (last ∷ rest) out above))),
        );
        later = λ _ later below.
            let each = All-permutation (P later) old (last ∷ rest) out below in
            All-permutation (P later) (key ∷ rest) new moves (All-cons (P later) key rest
            (keys_rank.chain later last key (All-head (P later) last rest each) after)
            (All-tail (P later) last rest each));
      }

  -- what `pop` took from a heap was the last
  pub replaced_top : (top : Option Key) (n : ℕ) (rest new : List Key) → IsHeap key_cmp old → 0 < n
      → HoldsAt (λ last. is_lt (key_cmp key last) ≡ true) old 0
      → IsSome top ↔ (0 < n) → IfSome top (λ x. x ≡ get_or old 0 x)
      → IfSome top (λ x. IsPermutation old (x ∷ rest)) → IfSome top (λ x. PopsGreatest key_cmp old x rest)
      → IsPermutation (key ∷ rest) new → KeepsFirst limit old key new
  replaced_top None n rest new heap some first there at out greatest moves =
      let none : IsSome {T = Key} None = there.1 some in cc
  replaced_top (Some last) n rest new heap some first there at out greatest moves =
      replaced last rest new (ap (λ x. is_lt (key_cmp key x)) at ∙ first last)
      (All-from_recursion _ old (greatest heap).1) out moves

-- a key that has room joins the others
pub joins : (limit : ℕ) (old new : List Key) (key : Key) → length old < limit → IsPermutation (key ∷ old) new
    → KeepsFirst limit old key new
joins limit old new key room moves = record {
  room = λ _. moves;
  full = λ full. absurd (omega arith);
  later = λ full later below. absurd (omega arith);
}

-- what `<` and `peek` say of the last key
pub compared : (result : Bool) (key last : Key) (kept : List Key) (n : ℕ) → result ≡ is_lt (key_cmp key last) → 0 < n
    → 0 < length kept → last ≡ get_or kept 0 last → IsLastOf last kept
    → MatchBool result ((0 < n) × HoldsAt (λ last. is_lt (key_cmp key last) ≡ true) kept 0) (IsLastOf key kept)
compared true key last kept n is some there at after =
    (some, at_read kept (λ last. is_lt (key_cmp key last) ≡ true) 0 last there at (sym is))
compared false key last kept n is some there at after =
    All-weaker (λ k. is_lt (key_cmp last k) ≡ false) (λ k. is_lt (key_cmp key k) ≡ false)
    (λ k. keys_rank.chain key last k (sym is)) kept after

-- `<` at keys
pub less : (a b d : Ordering) → is_some_and is_lt (partial_ordering_then (partial_ordering_then (Some a) (Some b)) (Some d))
    ≡ is_lt (ordering_then (ordering_then a b) d)
less Less b d = refl
less Greater b d = refl
less Equal Less d = refl
less Equal Equal d = refl
less Equal Greater d = refl

-- the loop's step
pub split_next : (limit : ℕ) (scores : List (Bor Bytes × Float)) (i : ℕ) (d : Bor Bytes × Float) → i < length scores
    → (key : Key) → told_key key ≡ ((get_or scores i d).0.now, (get_or scores i d).1) → IsKey key
    → (old new : List Key) → (dropped : List Key) × IsSplit limit (told (take i scores)) old dropped
    → KeepsFirst limit old key new → (dropped : List Key) × IsSplit limit (told (take (i + 1) scores)) new dropped
split_next limit scores i d lt key is flag old new split keeps =
    let tell : Bor Bytes × Float → Bytes × Float = λ e. (e.0.now, e.1) in
    let more = split_more limit (told (take i scores)) old split.0 split.1 key flag new keeps in
    let seen : told (take i scores) ++ told_key key ∷ [] ≡ told (take (i + 1) scores) =
    ap (λ t. told (take i scores) ++ t ∷ []) is ∙ sym (map-append tell (take i scores) (get_or scores i d ∷ []))
    ∙ ap told (sym (take_more scores i d lt)) in
    (more.0, subst (λ l. IsSplit limit l new more.0) seen more.1)
