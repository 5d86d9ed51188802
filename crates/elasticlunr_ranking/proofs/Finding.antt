-- Which documents tokens find in a field, in words of postings.
use Rattle.std.proofs.Common.{◌≡◌, ◌≢◌, ◌<◌, ℕ, ◌==◌, Bool, true, false, cond, not, List, [], ◌∷◌, length}
use Rattle.std.proofs.Common.{All, Option, Some, None, is_some, option_map, map, get_or, refl, sym, ap, subst, ◌∙◌, arith}
use Rattle.std.proofs.Common.{eq-eqb, eqb-true}
use Rattle.std.specs.Prelude.{◌↔◌, ◌||◌, Contains, IsSome, count_by, bytes_eq, filter}
use Rattle.std.specs.FinMap.Entries.{find}
use Rattle.std.specs.Float.{Float}
use Rattle.std.specs.List.{fold}
use Rattle.std.specs.Ordering.{is_eq}
use Rattle.std.proofs.lemmas.Cmp.{nat_list_eq_equiv}
use Rattle.std.proofs.lemmas.List.{get_or-map, length-map}
use Rattle.std.proofs.lemmas.List.Elements.{All-cons, All-contains, All-contains_itself, All-head, All-nil, All-tail}
use Rattle.std.proofs.lemmas.List.Elements.{All-weaker, Contains-append_right, Contains-get_or}
use Rattle.std.proofs.lemmas.List.Sorted.{Contains-permutation, IsPermutation-map, IsPermutation-sym}
use Rattle.std.proofs.lemmas.List.Sums.{count_by-le-length, length-filter}
use Rattle.std.proofs.lemmas.Map.Text.{is_eq-slice_cmp}
use Rattle.std.proofs.lemmas.Slice.Eq.{bytes_eq-Decides}
use Rattle.elasticlunr_error.specs.Text.{Text, Bytes, text_cmp}
use Rattle.elasticlunr_trie.specs.Table.{posting}
use Rattle.elasticlunr_store.specs.declared.config.SearchBool.{SearchBool}
use Rattle.elasticlunr_store.specs.declared.config.SearchBool.TheVariants.{Or, And}
use Rattle.elasticlunr_ranking.specs.Doubles.{◌+ᵈ◌}
use Rattle.elasticlunr_ranking.specs.Fields.{Field}
use Rattle.elasticlunr_ranking.specs.Numbers.{zero_double}
use Rattle.elasticlunr_ranking.specs.Order.{AreRanked}
use Rattle.elasticlunr_ranking.specs.Postings.{HasTokens, IsPlain}
use Rattle.elasticlunr_ranking.specs.Weights.{AreLookedUp, AreWordsOf, added, counted, counted_if, field_score}
use Rattle.elasticlunr_ranking.specs.Weights.{is_enough, is_found, is_found_itself, part, sum_of, token_score}
use Rattle.elasticlunr_ranking.specs.Weights.{tokens_score, total_score}
use Rattle.elasticlunr_ranking.proofs.Choosing.{not_zero}
use Rattle.elasticlunr_ranking.proofs.Sums.{stays}

-- a sum is there exactly if one of its parts is
all_none : {A : Type 0} (f : A → Option Float) (xs : List A) → sum_of (map f xs) ≡ None → All (λ x. f x ≡ None) xs
all_none f [] e = All-nil _
all_none f (x ∷ xs) e = elim (f x) as (λ o. f x ≡ o → fold added (added None o) (map f xs) ≡ None
    → All (λ x. f x ≡ None) (x ∷ xs)) [
      | None ↦ λ is none. All-cons (λ x. f x ≡ None) x xs is (all_none f xs none)
      | Some v ↦ λ is none. absurd (stays (zero_double +ᵈ v) (map f xs) none)
    ] refl e

has_part : {A : Type 0} (f : A → Option Float) (xs : List A) (x : A) → Contains xs x → IsSome (f x)
    → IsSome (sum_of (map f xs))
has_part f xs x in' some = elim (sum_of (map f xs)) as (λ o. sum_of (map f xs) ≡ o → IsSome o) [
  | None ↦ λ e. absurd (let none : f x ≡ None = All-contains (λ x. f x ≡ None) xs x (all_none f xs e) in' in cc)
  | Some v ↦ λ _. refl
] refl

any_part : {A : Type 0} (f : A → Option Float) (xs : List A) → IsSome (sum_of (map f xs))
    → (x : A) × Contains xs x × IsSome (f x)
any_part f [] some = absurd (let same : false ≡ true = some in cc)
any_part {A} f (x ∷ xs) some = elim (f x) as (λ o. f x ≡ o → IsSome (fold added (added None o) (map f xs))
    → (y : A) × Contains (x ∷ xs) y × IsSome (f y)) [
      | None ↦ λ is some.
          let more = any_part f xs some in
          (more.0, Contains-append_right (x ∷ []) xs more.0 more.1, more.2)
      | Some v ↦ λ is some. (x, (0, omega arith, refl), ap is_some is)
    ] refl some

-- as many pass as there are exactly if all pass
all_counted : {A : Type 0} (q : A → Bool) (xs : List A) → All (λ x. q x ≡ true) xs → length (filter q xs) ≡ length xs
all_counted q [] h = refl
all_counted q (x ∷ xs) h = ap (λ b. length (cond b (x ∷ filter q xs) (filter q xs))) (All-head (λ x. q x ≡ true) x xs h)
    ∙ omega (arith, all_counted q xs (All-tail (λ x. q x ≡ true) x xs h))

counted_all : {A : Type 0} (q : A → Bool) (xs : List A) → length (filter q xs) ≡ length xs → All (λ x. q x ≡ true) xs
counted_all q [] e = All-nil _
counted_all q (x ∷ xs) e = elim (q x) as (λ b. q x ≡ b
    → length (cond b (x ∷ filter q xs) (filter q xs)) ≡ length (x ∷ xs) → All (λ x. q x ≡ true) (x ∷ xs)) [
      | true ↦ λ is e. All-cons (λ x. q x ≡ true) x xs is (counted_all q xs (omega arith))
      | false ↦ λ is e. absurd (omega (arith, length-filter q xs, count_by-le-length q xs))
    ] refl e

some_cond : (b : Bool) (x : Float) → is_some (cond b None (Some x)) ≡ not b
some_cond true x = refl
some_cond false x = refl

both_nots : (a b : Bool) → a ≡ false → not (a || not b) ≡ b
both_nots true b e = cc
both_nots false true e = refl
both_nots false false e = refl

same_some : (o : Option Float) → is_some (added None o) ≡ is_some o
same_some None = refl
same_some (Some x) = refl

mapped : (f : ℕ → Float) (o : Option ℕ) → is_some (option_map f o) ≡ is_some o
mapped f None = refl
mapped f (Some n) = refl

not_in : {A : Type 0} {x : A} → Contains [] x → ⊥
not_in in' = omega (arith, in'.1)

some_listed : {A : Type 0} (xs : List A) → xs ≢ [] → (x : A) × Contains xs x
some_listed [] some = absurd (some refl)
some_listed (x ∷ xs) some = (x, (0, omega arith, refl))

-- the test of `find`
pub tested : (r k : Bytes) → is_eq (text_cmp r k) ≡ bytes_eq k r
tested r k = is_eq-slice_cmp r k ∙ nat_list_eq_equiv.symm r k

module _ (field : Field) (r : Bytes) where
  abbrev score : Text × List Text → Option Float
  score t = token_score field t.0 t.1 r

  alone : (token : Text) (words : List Text) → words ≡ token ∷ []
      → is_some (token_score field token words r) ≡ is_some (posting field.table token r)
  alone token words e = ap (λ ws. is_some (token_score field token ws r)) e
      ∙ same_some (part field token token r) ∙ mapped _ (posting field.table token r)

  enough : field.boost ≢ 0 → (n found exact : ℕ) (s : Float)
      → is_some (counted field n found exact s) ≡ is_enough field.join n found
  enough counts n found exact s =
      some_cond _ _ ∙ both_nots (field.boost == 0) (is_enough field.join n found) (not_zero field.boost counts)

  has_total : (n found exact : ℕ) (total : Option Float) → IsSome (counted_if field n found exact total) → IsSome total
  has_total n found exact None some = some
  has_total n found exact (Some s) some = refl

  enough_total : (n found exact : ℕ) (total : Option Float) → field.boost ≢ 0 → is_enough field.join n found ≡ true
      → IsSome total → IsSome (counted_if field n found exact total)
  enough_total n found exact None counts all some = some
  enough_total n found exact (Some s) counts all some = enough counts n found exact s ∙ all

  was_enough : (n found exact : ℕ) (total : Option Float) → field.boost ≢ 0
      → IsSome (counted_if field n found exact total) → is_enough field.join n found ≡ true
  was_enough n found exact None counts some = absurd (let same : false ≡ true = some in cc)
  was_enough n found exact (Some s) counts some = sym (enough counts n found exact s) ∙ some

  module _ (looked_up : List (Text × List Text))
      (found : All (λ t. is_some (score t) ≡ is_some (posting field.table t.0 r)) looked_up) (counts : field.boost ≢ 0)
    where
      abbrev names : List Text
      names = map (λ t. t.0) looked_up

      listed : (t : Text × List Text) → Contains looked_up t → Contains names t.0
      listed t in' = (
        in'.0,
        omega (arith, length-map looked_up (λ (t : Text × List Text). t.0), in'.1),
        get_or-map (λ (t : Text × List Text). t.0) looked_up in'.0 t t.0 in'.1 ∙ ap (λ t. t.0) in'.2,
      )

      behind : (token : Text) → Contains names token → (t : Text × List Text) × Contains looked_up t × (t.0 ≡ token)
      behind token in' =
          let d : Text × List Text = (token, []) in
          let there : in'.0 < length looked_up =
          omega (arith, length-map looked_up (λ (t : Text × List Text). t.0), in'.1) in (
            get_or looked_up in'.0 d,
            Contains-get_or looked_up in'.0 d there,
            sym (get_or-map (λ (t : Text × List Text). t.0) looked_up in'.0 d token there) ∙ in'.2,
          )

      -- a token that has a posting finds the document, and the other way round
      finds : (token : Text) → Contains names token → IsSome (posting field.table token r)
          → (t : Text × List Text) × Contains looked_up t × IsSome (score t)
      finds token in' some =
          let t = behind token in' in (
            t.0,
            t.1,
            All-contains (λ t. is_some (score t) ≡ is_some (posting field.table t.0 r)) looked_up t.0 found t.1
                ∙ ap (λ w. is_some (posting field.table w r)) t.2 ∙ some,
          )

      found_by : (t : Text × List Text) → Contains looked_up t → IsSome (score t) → IsSome (posting field.table t.0 r)
      found_by t in' some =
          sym (All-contains (λ t. is_some (score t) ≡ is_some (posting field.table t.0 r)) looked_up t found in') ∙ some

      total : IsSome (field_score field looked_up r) → (t : Text × List Text) × Contains looked_up t × IsSome (score t)
      total some = any_part score looked_up (has_total (length looked_up) (count_by (is_found field r) looked_up)
          (count_by (is_found_itself field r) looked_up) (tokens_score field looked_up r) some)

      scored : (t : Text × List Text) → Contains looked_up t → IsSome (score t)
          → is_enough field.join (length looked_up) (count_by (is_found field r) looked_up) ≡ true
          → IsSome (field_score field looked_up r)
      scored t in' some all = enough_total (length looked_up) (count_by (is_found field r) looked_up)
          (count_by (is_found_itself field r) looked_up) (tokens_score field looked_up r) counts all
          (has_part score looked_up t in' some)

      by_join : (join : SearchBool) → field.join ≡ join
          → IsSome (field_score field looked_up r) ↔ HasTokens join field.table names r
      by_join Or e = (
        λ some.
            let t = total some in
            (t.0.0, listed t.0 t.1, found_by t.0 t.1 t.2),
        λ has.
            let t = finds has.0 has.1 has.2 in
            scored t.0 t.1 t.2 (ap (λ j. is_enough j (length looked_up) (count_by (is_found field r) looked_up)) e),
      )
      by_join And e = (
        λ some.
            let t = total some in
            let all : (count_by (is_found field r) looked_up == length looked_up) ≡ true =
            sym (ap (λ j. is_enough j (length looked_up) (count_by (is_found field r) looked_up)) e)
            ∙ was_enough (length looked_up) (count_by (is_found field r) looked_up)
            (count_by (is_found_itself field r) looked_up) (tokens_score field looked_up r) counts some in
            let each = counted_all (is_found field r) looked_up (length-filter (is_found field r) looked_up
            ∙ eqb-true _ _ all) in (
              λ none. absurd (not_in (subst (λ ts. Contains ts t.0.0) none (listed t.0 t.1))),
              λ token in'.
                  let t = behind token in' in
                  sym (ap (λ w. is_some (posting field.table w r)) t.2)
                  ∙ found_by t.0 t.1 (All-contains (λ t. is_found field r t ≡ true) looked_up t.0 each t.1),
            ),
        λ has.
            let each : All (λ t. is_found field r t ≡ true) looked_up =
            All-weaker (Contains looked_up) (λ t. is_found field r t ≡ true)
            (λ t in'. All-contains (λ t. is_some (score t) ≡ is_some (posting field.table t.0 r)) looked_up t found in'
            ∙ has.1 t.0 (listed t in')) looked_up (All-contains_itself looked_up) in
            let t = some_listed names has.0 in
            let first = finds t.0 t.1 (has.1 t.0 t.1) in
            scored first.0 first.1 first.2
            (ap (λ j. is_enough j (length looked_up) (count_by (is_found field r) looked_up)) e
            ∙ eq-eqb _ _ (sym (length-filter (is_found field r) looked_up) ∙ all_counted (is_found field r) looked_up each)),
      )

-- the law of scores
pub scored_have : (field : Field) (tokens : List Text) (looked_up : List (Text × List Text)) (r : Bytes)
    → IsPlain field → AreLookedUp field tokens looked_up
    → IsSome (field_score field looked_up r) ↔ HasTokens field.join field.table tokens r
scored_have field tokens looked_up r plain are =
    subst (λ ts. IsSome (field_score field looked_up r) ↔ HasTokens field.join field.table ts r) are.0
    (by_join field r looked_up
    (All-weaker (λ t. AreWordsOf field.table field.expand t.0 t.1)
    (λ t. is_some (token_score field t.0 t.1 r) ≡ is_some (posting field.table t.0 r))
    (λ t words. alone field r t.0 t.1 (subst (λ x. AreWordsOf field.table x t.0 t.1) plain.0 words)) looked_up are.1)
    plain.1 field.join refl)

-- what is found in a list under its references
not_found : (r : Bytes) (es : List (Bytes × Float)) → find text_cmp r es ≡ None → All (λ k. r ≢ k) (map (λ e. e.0) es)
not_found r [] none = All-nil _
not_found r (e ∷ es) none = elim (bytes_eq e.0 r) as (λ b. bytes_eq e.0 r ≡ b → All (λ k. r ≢ k) (map (λ e. e.0) (e ∷ es))) [
  | true ↦ λ is. absurd (let some : cond true (Some e.1) (find text_cmp r es) ≡ None =
      sym (ap (λ b. cond b (Some e.1) (find text_cmp r es)) (tested r e.0 ∙ is)) ∙ none in cc)
  | false ↦ λ is. All-cons (λ k. r ≢ k) e.0 (map (λ e. e.0) es)
      (λ same. let yes : bytes_eq e.0 r ≡ true = (bytes_eq-Decides e.0 r).1 (sym same) in cc)
      (not_found r es (sym (ap (λ b. cond b (Some e.1) (find text_cmp r es)) (tested r e.0 ∙ is)) ∙ none))
] refl

is_there : (r : Bytes) (es : List (Bytes × Float)) → IsSome (find text_cmp r es) → Contains (map (λ e. e.0) es) r
is_there r [] some = absurd (let same : false ≡ true = some in cc)
is_there r (e ∷ es) some = elim (bytes_eq e.0 r) as (λ b. bytes_eq e.0 r ≡ b → Contains (map (λ e. e.0) (e ∷ es)) r) [
  | true ↦ λ is. (0, omega arith, (bytes_eq-Decides e.0 r).0 is)
  | false ↦ λ is. Contains-append_right (e.0 ∷ []) (map (λ e. e.0) es) r
      (is_there r es (sym (ap (λ b. is_some (cond b (Some e.1) (find text_cmp r es))) (tested r e.0 ∙ is)) ∙ some))
] refl

is_some_there : (r : Bytes) (es : List (Bytes × Float)) → Contains (map (λ e. e.0) es) r → IsSome (find text_cmp r es)
is_some_there r es in' = elim (find text_cmp r es) as (λ o. find text_cmp r es ≡ o → IsSome o) [
  | None ↦ λ e. absurd (All-contains (λ k. r ≢ k) (map (λ e. e.0) es) r (not_found r es e) in' refl)
  | Some v ↦ λ _. refl
] refl

-- a list that has one field
one_field : {A : Type 0} (field : Field) (fs : List (Field × A)) → map (λ f. f.0) fs ≡ field ∷ []
    → (own : A) × (fs ≡ (field, own) ∷ [])
one_field field [] e = absurd (let len : 0 ≡ 1 = ap length e in omega arith)
one_field field (f ∷ []) e = (f.1, λ i. (get_or (e i) 0 field, f.1) ∷ [])
one_field field (f ∷ g ∷ fs) e = absurd (omega (arith, ap length e))

-- the law of hits
pub hits_have : (field : Field) (tokens : List Text) (hits : List (Bytes × Float)) (r : Bytes) → IsPlain field
    → AreRanked (field ∷ []) tokens hits
    → Contains (map (λ hit. hit.0) hits) r ↔ HasTokens field.join field.table tokens r
hits_have field tokens hits r plain ranked =
    let own = one_field field ranked.looked_up ranked.of_fields.0 in
    let are = All-head (λ f. AreLookedUp f.0 tokens f.1) (field, own.0) []
    (subst (All (λ f. AreLookedUp f.0 tokens f.1)) own.1 ranked.of_fields.1) in
    let law = scored_have field tokens own.0 r plain are in
    let same : is_some (find text_cmp r ranked.scores) ≡ is_some (field_score field own.0 r) =
    ap is_some (ranked.are.are r) ∙ ap (λ fs. is_some (total_score fs r)) own.1 ∙ same_some (field_score field own.0 r) in
    let name = λ (hit : Bytes × Float). hit.0 in
    let moves = IsPermutation-map name ranked.scores hits ranked.each in (
      λ in'. law.0 (sym same ∙ is_some_there r ranked.scores
          (Contains-permutation (map name hits) (map name ranked.scores) r
          (IsPermutation-sym (map name ranked.scores) (map name hits) moves) in')),
      λ has. Contains-permutation (map name ranked.scores) (map name hits) r moves
          (is_there r ranked.scores (same ∙ law.1 has)),
    )
