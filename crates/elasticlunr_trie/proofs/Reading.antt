-- What a value tells, when it is read.
use Rattle.std.proofs.Common.{true, ◌≡◌, ◌≢◌, ◌⊎◌, inl, inr, ℕ, zero, suc, get_or, ◌+◌, ◌<◌, List, [], ◌∷◌, ◌++◌}
use Rattle.std.proofs.Common.{length, Option, Some, None, IsSome, is_some, option_map, option_and_then, codes}
use Rattle.std.proofs.Common.{encode_utf8, refl, sym, ap, subst, ◌∙◌, arith, append-nil, append_assoc, Less, Equal}
use Rattle.std.proofs.Common.{Greater, String, Global, string_bytes, string_cmp, length-append}
use mathlib.Core.Bool.{false≢true}
use Rattle.std.proofs.lemmas.Bool.{cases_eq, cases_lt}
use Rattle.std.proofs.lemmas.Cmp.{nat_list_cmp_total, tied_itself}
use Rattle.std.proofs.lemmas.Str.{encode_same}
use Rattle.std.specs.declared.cmp.Ordering.{Ordering}
use Rattle.std.specs.Ordering.{nat_cmp, match_ordering, ordering_reverse, is_eq}
use Rattle.std.specs.Cmp.Lexicographic.{slice_cmp}
use Rattle.std.specs.Str.{all_scalars}
use Rattle.std.specs.List.{insert, slice_get}
use Rattle.std.specs.List.Sorted.{IsStrictlySortedBy}
use Rattle.std.specs.Map.{keys_of}
use Rattle.std.specs.BTreeMap.{insert_entry}
use Rattle.serde_json.specs.Data.{Data, object, Members, no_members, member, put}
use Rattle.serde_json.specs.Find.{get, get_member, as_object}
use Rattle.serde_json.specs.Events.{members_len}
use Rattle.serde_json.specs.View.{view, members_view}
use Rattle.serde_json.proofs.Views.{Entry, get_member-put, get_member-put_other}
use Rattle.serde_json.specs.declared.value.Value.{Value}
use Rattle.elasticlunr_trie_nodes.specs.Pairs.{key_at, IsGapFor, IsStrictlySorted}
use Rattle.elasticlunr_trie.specs.Children.{Children, child}
use Rattle.elasticlunr_trie_nodes.specs.Table.{Entries}
use Rattle.elasticlunr_trie.specs.Tree.{frequency, frequencies}
use Rattle.elasticlunr_trie.specs.Finished.{value_at}
use Rattle.elasticlunr_trie.specs.Reading.{borrowed_values, HasNewValues, ReadsChildren}
use Rattle.std.specs.Borrow.{Bor}
use Rattle.elasticlunr_trie_nodes.proofs.Entries.{bytes_of}
use Rattle.elasticlunr_json.proofs.ReadingMaps.{object_of}
use Rattle.elasticlunr_json.proofs.Sorted.{below_middle}
use Rattle.elasticlunr_trie_nodes.proofs.Gap.{sets_only_insert, sorted_insert, value_at_place}
use Rattle.elasticlunr_trie.proofs.Rising.{encode_rising}
use Rattle.elasticlunr_json.proofs.Texts.{same_or_not, text_tie}
use Rattle.elasticlunr_trie.proofs.Finishing.{not_letter, letters_same}
use Rattle.elasticlunr_trie_nodes.proofs.Places.{get_before, get_behind, get_within}

-- ---- objects

one_found : (ms : Members) (k : List ℕ) (x : Data) → members_len ms ≡ 1 → get_member k ms ≡ Some x → ms
    ≡ member k x no_members
one_found no_members k x one found = absurd (cc)
one_found (member l e (member m f ms)) k x one found = absurd (omega (arith, one))
one_found (member l e no_members) k x one found =
    elim (slice_cmp nat_cmp k l) as (λ o. slice_cmp nat_cmp k l ≡ o → match_ordering o None (Some e) None ≡ Some x
    → member l e no_members ≡ member k x no_members) [
      | Less ↦ λ is here. absurd (cc)
      | Equal ↦ λ is here.
          let key : k ≡ l = text_tie k l (ap is_eq is) in
          let value : e ≡ x = cc in
          λ i. member (sym key i) (value i) no_members
      | Greater ↦ λ is here. absurd (cc)
    ] refl found

-- an object of one member
pub one_member : (d : Data) (ms : Members) (k : List ℕ) (x : Data) → Some ms ≡ as_object d → members_len ms ≡ 1
    → get k d ≡ Some x → d ≡ object (member k x no_members)
one_member d ms k x is one found =
    let o = object_of d ms is in
    o ∙ ap object (one_found ms k x one (sym (ap (get k) o) ∙ found))

pub found_alone : (k : List ℕ) (x : Data) → get k (object (member k x no_members)) ≡ Some x
found_alone k x = ap (λ o. match_ordering o None (Some x) None) (tied_itself nat_list_cmp_total k)

pub not_alone : (d : Data) (k : List ℕ) (x : Data) → get k d ≡ None → d ≡ object (member k x no_members) → ⊥
not_alone d k x none is = let some : get k d ≡ Some x = ap (get k) is ∙ found_alone k x in absurd (cc)

pub more_members : (d : Data) (ms : Members) (k : List ℕ) (x : Data) → Some ms ≡ as_object d → (members_len ms ≡ 1 → ⊥)
    → d ≡ object (member k x no_members) → ⊥
more_members d ms k x is more alone =
    let same : Some ms ≡ Some (member k x no_members) = is ∙ ap as_object alone in
    let m : ms ≡ member k x no_members = cc in
    more (ap members_len m)

-- ---- postings

frequencies-match_ordering : (o : _) (a b c : Entries) → frequencies (bytes_of (match_ordering o a b c))
    ≡ match_ordering o (frequencies (bytes_of a)) (frequencies (bytes_of b)) (frequencies (bytes_of c))
frequencies-match_ordering Less a b c = refl
frequencies-match_ordering Equal a b c = refl
frequencies-match_ordering Greater a b c = refl

frequencies-insert_entry : (es : Entries) (k : String Global) (n : ℕ)
    → frequencies (bytes_of (insert_entry string_cmp es k n))
    ≡ put (string_bytes k) (frequency n) (frequencies (bytes_of es))
frequencies-insert_entry [] k n = refl
frequencies-insert_entry (e ∷ es) k n = frequencies-match_ordering (string_cmp k e.0) _ _ _
    ∙ rw (frequencies-insert_entry es k n)

-- one more posting is read
pub one_more_posting : (done : List Entry) (e : Entry) (more : List Entry) (es : Entries) (k : String Global) (n : ℕ)
    → put (string_bytes e.0) (view e.1) (members_view done) ≡ members_view (done ++ e ∷ [])
    → members_view done ≡ frequencies (bytes_of es) → string_bytes k ≡ string_bytes e.0 → view e.1 ≡ frequency n
    → members_view (done ++ e ∷ []) ≡ frequencies (bytes_of (insert_entry string_cmp es k n))
one_more_posting done e more es k n last before key value = sym last ∙ (λ i. put (sym key i) (value i) (before i))
    ∙ sym (frequencies-insert_entry es k n)

-- ---- characters

pub some_bytes : (c : ℕ) → encode_utf8 c ≡ [] → ⊥
some_bytes c none =
    let same : encode_utf8 c ++ encode_utf8 (suc c) ≡ encode_utf8 (suc c) ++ [] = ap (λ t. t ++ encode_utf8 (suc c))
    none ∙ sym (append-nil _) in
    let number = (encode_same c (suc c) (encode_utf8 (suc c)) [] same).0 in
    absurd (omega arith)

pub two_characters : (text rest more : List ℕ) (c d x : ℕ) → text ≡ encode_utf8 c ++ rest → rest ≡ encode_utf8 d ++ more
    → text ≡ encode_utf8 x → ⊥
two_characters text rest more c d x first second one =
    let both : encode_utf8 x ++ [] ≡ encode_utf8 c ++ rest = append-nil (encode_utf8 x) ∙ sym one ∙ first in
    let tail = (encode_same x c [] rest both).1 in
    by (encode_utf8 d) refl (tail ∙ second)
  where
    by : (t : List ℕ) → encode_utf8 d ≡ t → [] ≡ t ++ more → ⊥
    by [] is e = some_bytes d is
    by (b ∷ t) is e = absurd (cc)

-- ---- children

-- characters stand in the order of their bytes
letter_below : (d c : ℕ) → slice_cmp nat_cmp (encode_utf8 d) (encode_utf8 c) ≡ Less → d < c
letter_below d c less = elim (cases_lt d c) [
  | inl lt ↦ lt
  | inr ge ↦ elim (cases_eq d c) [
    | inl same ↦
        let tied : slice_cmp nat_cmp (encode_utf8 d) (encode_utf8 c)
        ≡ Equal = ap (λ x. slice_cmp nat_cmp (encode_utf8 d) (encode_utf8 x)) (sym same)
        ∙ tied_itself nat_list_cmp_total (encode_utf8 d) in
        absurd (less_is_not_equal (sym less ∙ tied))
    | inr apart ↦
        let greater : slice_cmp nat_cmp (encode_utf8 d) (encode_utf8 c)
        ≡ Greater = nat_list_cmp_total.antisymm (encode_utf8 d) (encode_utf8 c)
        ∙ ap ordering_reverse (encode_rising c d (omega arith)) in
        absurd (less_is_not_greater (sym less ∙ greater))
  ]
]
  where
    less_is_not_equal : Less ≡ Equal → ⊥
    less_is_not_equal e = cc

    less_is_not_greater : Less ≡ Greater → ⊥
    less_is_not_greater e = cc

below_either : {P : Type 0} (o : Ordering) (rest : Option Data) (d : Data) → (o ≡ Equal → P) → (IsSome rest → P)
    → IsSome (match_ordering o rest (Some d) rest) → P
below_either Less rest d here more some = more some
below_either Equal rest d here more some = here refl
below_either Greater rest d here more some = more some

-- a key stands once
pub not_among : (done : List Entry) (e : Entry) (more : List Entry)
    → IsStrictlySortedBy string_cmp (keys_of (done ++ e ∷ more)) → get_member (string_bytes e.0) (members_view done)
    ≡ None
unfolding IsStrictlySortedBy
not_among [] e more h = refl
not_among (first ∷ done) e more h =
    let above : slice_cmp nat_cmp (string_bytes e.0) (string_bytes first.0) ≡ Greater =
    nat_list_cmp_total.antisymm (string_bytes e.0) (string_bytes first.0)
    ∙ ap ordering_reverse (below_middle first done e more h.0) in
    rw above (not_among done e more h.1)

-- what stands among the members before a key is below it
pub below_next : (done : List Entry) (e : Entry) (more : List Entry)
    → IsStrictlySortedBy string_cmp (keys_of (done ++ e ∷ more)) → (q : List ℕ)
    → IsSome (get_member q (members_view done)) → slice_cmp nat_cmp q (string_bytes e.0) ≡ Less
unfolding IsStrictlySortedBy
below_next [] e more h q some = absurd (false≢true some)
below_next (first ∷ done) e more h q some =
    below_either (slice_cmp nat_cmp q (string_bytes first.0)) (get_member q (members_view done)) (view first.1)
    (λ is. ap (λ x. slice_cmp nat_cmp x (string_bytes e.0)) (text_tie q (string_bytes first.0) (ap is_eq is))
    ∙ below_middle first done e more h.0)
    (below_next done e more h.1 q) some

pub is_there : (done : List Entry) (e : Entry) (more : List Entry)
    → IsSome (get_member (string_bytes e.0) (members_view (done ++ e ∷ more)))
is_there [] e more = ap (λ o. is_some (match_ordering o (get_member (string_bytes e.0) (members_view more))
    (Some (view e.1)) (get_member (string_bytes e.0) (members_view more))))
    (tied_itself nat_list_cmp_total (string_bytes e.0))
is_there (d ∷ done) e more = either (slice_cmp nat_cmp (string_bytes e.0) (string_bytes d.0)) (is_there done e more)
  where
    either : (o : _) → IsSome (get_member (string_bytes e.0) (members_view (done ++ e ∷ more)))
        → IsSome (match_ordering o (get_member (string_bytes e.0) (members_view (done ++ e ∷ more))) (Some (view d.1))
        (get_member (string_bytes e.0) (members_view (done ++ e ∷ more))))
    either Less h = h
    either Equal h = refl
    either Greater h = h

module _ (es : Children) (old new : List Value) (ms : Members) (reads : ReadsChildren es old new ms) where
  value_there : (c k : ℕ) → child es c ≡ Some k → (v : Value) × (slice_get new k ≡ Some v)
  value_there c k e = get_within new k (reads.values.fresh c k e).1

  -- a character that no member has yet
  pub not_yet : (c : ℕ) → get_member (encode_utf8 c) ms ≡ None → child es c ≡ None
  not_yet c none = by (child es c) refl
    where
      by : (o : Option ℕ) → child es c ≡ o → child es c ≡ None
      by None e = e
      by (Some k) e =
          let v = value_there c k e in
          let some : get_member (encode_utf8 c) ms ≡ Some (view v.0) = reads.present c
          ∙ ap (option_and_then (value_at new)) e ∙ ap (option_map view) v.1 in
          absurd (cc)

  -- `docs` and `df` are no children
  pub skips_key : (k : List ℕ) (d : Data) → (k ≡ codes "docs") ⊎ (k ≡ codes "df")
      → ReadsChildren es old new (put k d ms)
  skips_key k d is = record {
    values = reads.values;
    present = λ c. get_member-put_other (encode_utf8 c) k d ms (λ e. elim is [
      | inl docs ↦ not_letter c 100 111 (99 ∷ 115 ∷ []) (omega arith) (sym (e ∙ docs))
      | inr df ↦ not_letter c 100 102 [] (omega arith) (sym (e ∙ df))
    ]) ∙ reads.present c;
    only = λ q found. elim (same_or_not q k) [
      | inl same ↦ elim is [ inl docs ↦ inl (same ∙ docs) | inr df ↦ inr (inl (same ∙ df)) ]
      | inr apart ↦ reads.only q (ap is_some (sym (get_member-put_other q k d ms apart)) ∙ found)
    ];
  }

  module _ (c at : ℕ) (v : Value) (none : child es c ≡ None) (gap : IsGapFor es c at) (es2 : Children) (gains : es2
      ≡ insert es at (c, length new)) (scalar : all_scalars (c ∷ []) ≡ true) where
    here : child es2 c ≡ Some (length new)
    here = ap (λ l. child l c) gains ∙ (sets_only_insert es c at gap (length new)).this_key

    others : (x : ℕ) → x ≢ c → child es2 x ≡ child es x
    others x apart = ap (λ l. child l x) gains ∙ (sets_only_insert es c at gap (length new)).other_keys x apart

    longer : length (new ++ v ∷ []) ≡ suc (length new)
    longer = omega (arith, length-append new (v ∷ []))

    new_values : HasNewValues es2 old (new ++ v ∷ [])
    new_values = record {
      more = reads.values.more ++ v ∷ [];
      grown = ap (λ t. t ++ v ∷ []) reads.values.grown ∙ append_assoc old reads.values.more (v ∷ []);
      sorted = subst (λ l. IsStrictlySorted l) (sym gains) (sorted_insert es c at gap (length new) reads.values.sorted);
      characters = λ x k e. elim (cases_eq x c) [
        | inl same ↦ subst (λ y. all_scalars (y ∷ []) ≡ true) (sym same) scalar
        | inr apart ↦ reads.values.characters x k (sym (others x apart) ∙ e)
      ];
      fresh = λ x k e. elim (cases_eq x c) [
        | inl same ↦
            let is : Some k ≡ Some (length new) = sym e ∙ ap (child es2) same ∙ here in
            let number : k ≡ length new = cc in
            let low : length new ≡ length old + length reads.values.more = ap length reads.values.grown
            ∙ length-append old reads.values.more in
            (omega arith, omega (arith, longer))
        | inr apart ↦
            let f = reads.values.fresh x k (sym (others x apart) ∙ e) in
            (f.0, omega (arith, longer, f.1))
      ];
      apart = λ x y k e f. elim (cases_eq x c) [
        | inl same ↦ elim (cases_eq y c) [
          | inl too ↦ same ∙ sym too
          | inr apart ↦
              let is : Some k ≡ Some (length new) = sym e ∙ ap (child es2) same ∙ here in
              let number : k ≡ length new = cc in
              absurd (omega (arith, (reads.values.fresh y k (sym (others y apart) ∙ f)).1))
        ]
        | inr apart ↦ elim (cases_eq y c) [
          | inl too ↦
              let is : Some k ≡ Some (length new) = sym f ∙ ap (child es2) too ∙ here in
              let number : k ≡ length new = cc in
              absurd (omega (arith, (reads.values.fresh x k (sym (others x apart) ∙ e)).1))
          | inr also ↦ reads.values.apart x y k (sym (others x apart) ∙ e) (sym (others y also) ∙ f)
        ]
      ];
      each = λ k low high. elim (cases_eq k (length new)) [
        | inl same ↦ (c, here ∙ ap Some (sym same))
        | inr apart ↦
            let before = reads.values.each k low (omega (arith, longer)) in (
              before.0,
              others before.0 (λ e. let x : child es c ≡ Some k = ap (child es) (sym e)
                  ∙ before.1 in absurd (cc)) ∙ before.1,
            )
      ];
    }

    later_value : (x : ℕ) → option_and_then (value_at new) (child es x)
        ≡ option_and_then (value_at (new ++ v ∷ [])) (child es x)
    later_value x = by (child es x) refl
      where
        by : (o : Option ℕ) → child es x ≡ o → option_and_then (value_at new) (child es x)
            ≡ option_and_then (value_at (new ++ v ∷ [])) (child es x)
        by None e = ap (option_and_then (value_at new)) e ∙ sym (ap (option_and_then (value_at (new ++ v ∷ []))) e)
        by (Some k) e =
            ap (option_and_then (value_at new)) e
            ∙ ap (option_map view) (sym (get_before new (v ∷ []) k (reads.values.fresh x k e).1))
            ∙ sym (ap (option_and_then (value_at (new ++ v ∷ []))) e)

    -- a member under a new character
    pub takes_key : ReadsChildren es2 old (new ++ v ∷ []) (put (encode_utf8 c) (view v) ms)
    takes_key = record {
      values = new_values;
      present = λ x. elim (cases_eq x c) [
        | inl same ↦ subst (λ y. get_member (encode_utf8 y) (put (encode_utf8 c) (view v) ms)
            ≡ option_and_then (value_at (new ++ v ∷ [])) (child es2 y)) (sym same)
            (get_member-put (encode_utf8 c) (view v) ms ∙ sym (ap (option_and_then (value_at (new ++ v ∷ []))) here
            ∙ ap (option_map view) (get_behind new (v ∷ []) (length new) 0 (omega arith))))
        | inr apart ↦ get_member-put_other (encode_utf8 x) (encode_utf8 c) (view v) ms (λ e. apart (letters_same x c e))
            ∙ reads.present x ∙ later_value x ∙ ap (option_and_then (value_at (new ++ v ∷ []))) (sym (others x apart))
      ];
      only = λ q found. elim (same_or_not q (encode_utf8 c)) [
        | inl same ↦ inr (inr (c, ap is_some here, same))
        | inr apart ↦ elim (reads.only q (ap is_some (sym (get_member-put_other q (encode_utf8 c) (view v) ms apart))
            ∙ found)) [
              | inl docs ↦ inl docs
              | inr (inl df) ↦ inr (inl df)
              | inr (inr letter) ↦ inr (inr (
                letter.0,
                ap is_some (others letter.0 (λ e. false≢true (sym (ap is_some (ap (child es) e ∙ none)) ∙ letter.1)))
                    ∙ letter.1,
                letter.2,
              ))
            ]
      ];
    }

  -- a character above those of the members goes last
  pub goes_last : (c : ℕ) → ((q : List ℕ) → IsSome (get_member q ms) → slice_cmp nat_cmp q (encode_utf8 c) ≡ Less)
      → IsGapFor es c (length es)
  goes_last c above = record {
    in_range = omega arith;
    smaller_before = λ j lt.
        let d = key_at es j in
        let k = get_or es j (0, 0) in
        let here : child es d ≡ Some k.1 = value_at_place es reads.values.sorted d j
        (record { in_range = lt; has_key = refl }) in
        let v = value_there d k.1 here in
        let some : get_member (encode_utf8 d) ms ≡ Some (view v.0) = reads.present d
        ∙ ap (option_and_then (value_at new)) here ∙ ap (option_map view) v.1 in
        letter_below d c (above (encode_utf8 d) (ap is_some some));
    greater_after = λ j le lt. absurd (omega arith);
  }

-- a new last one
pub insert_last : {A : Type 0} (xs : List A) (x : A) → insert xs (length xs) x ≡ xs ++ x ∷ []
insert_last [] x = refl
insert_last (y ∷ xs) x = ap (λ t. y ∷ t) (insert_last xs x)

-- no member is read yet
pub nothing_read : (vs : List Value) → ReadsChildren [] vs vs no_members
nothing_read vs = record {
  values = record {
    more = [];
    grown = sym (append-nil vs);
    sorted = λ i j lt in_range. absurd (omega arith);
    characters = λ c k e. absurd (cc);
    fresh = λ c k e. absurd (cc);
    apart = λ c d k e f. absurd (cc);
    each = λ k low high. absurd (omega arith);
  };
  present = λ c. refl;
  only = λ q found. absurd (false≢true found);
}

-- ---- values after references

pub borrowed_push : (rs : List (Bor Value)) (r : Bor Value) → borrowed_values (rs ++ r ∷ [])
    ≡ borrowed_values rs ++ r.now ∷ []
borrowed_push [] r = refl
borrowed_push (x ∷ rs) r = ap (λ vs. x.now ∷ vs) (borrowed_push rs r)

pub length-borrowed : (rs : List (Bor Value)) → length (borrowed_values rs) ≡ length rs
length-borrowed [] = refl
length-borrowed (x ∷ rs) = ap suc (length-borrowed rs)

borrowed_at : (rs : List (Bor Value)) (k : ℕ) (d : Bor Value) → k < length rs → slice_get (borrowed_values rs) k
    ≡ Some (get_or rs k d).now
borrowed_at [] k d h = absurd (omega arith)
borrowed_at (r ∷ rs) zero d h = refl
borrowed_at (r ∷ rs) (suc k) d h = borrowed_at rs k d (omega arith)

pub borrowed_there : (rs : List (Bor Value)) (n k : ℕ) (r : Bor Value) → k < length rs → n ≡ k → r ≡ get_or rs n r
    → slice_get (borrowed_values rs) k ≡ Some r.now
borrowed_there rs n k r h same is = borrowed_at rs k r h ∙ ap (λ j. Some (get_or rs j r).now) (sym same)
    ∙ ap (λ x. Some x.now) (sym is)
