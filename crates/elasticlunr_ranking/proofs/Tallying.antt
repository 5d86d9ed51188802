-- The tally of a document after one token more.
use Rattle.std.proofs.Common.{◌≡◌, ◌<◌, ◌+◌, ℕ, Bool, true, false, cond, List, [], ◌∷◌, ◌++◌, length, Option}
use Rattle.std.proofs.Common.{Some, None, is_some, refl, sym, ap, ◌∙◌, arith, option_map}
use Rattle.std.specs.Prelude.{◌&&◌, count_by}
use Rattle.std.specs.Float.{Float}
use Rattle.std.proofs.lemmas.List.Sums.{count_by-le-length}
use Rattle.elasticlunr_error.specs.Text.{Text, Bytes}
use Rattle.elasticlunr_trie.specs.Table.{posting}
use Rattle.elasticlunr_ranking.specs.Fields.{Field}
use Rattle.elasticlunr_ranking.specs.Doubles.{◌+ᵈ◌}
use Rattle.elasticlunr_ranking.specs.Weights.{added, counted, counted_if, field_score, is_found, is_found_itself}
use Rattle.elasticlunr_ranking.specs.Weights.{token_score, tokens_score, weight}
use Rattle.elasticlunr_ranking.specs.Held.{Scores, add_weight, under}
use Rattle.elasticlunr_ranking.specs.Tallies.{add_score, add_tally, one_more, tallied, tally_of}
use Rattle.elasticlunr_ranking.specs.Numbers.{zero_double}
use Rattle.elasticlunr_ranking.specs.declared.tally.Tally.{Tally}
use Rattle.elasticlunr_ranking.proofs.Sums.{count_push, none_counted, sum_push}
use Rattle.elasticlunr_ranking.proofs.Under.{once, put_at}

abbrev made : Option Float → (found exact : ℕ) → Option Tally
made total found exact = option_map (λ score. record { score = score; found = found; exact = exact }) total

abbrev put : Option Tally → Option Float → Bool → Option Tally
put before None exact = before
put before (Some score) exact = Some (tallied before score exact)

one : (c : ℕ) → c < 18446744073709551615 → one_more c ≡ c + 1
one c h = omega arith

exact_one : (e : Bool) (c : ℕ) → c < 18446744073709551615 → cond e (one_more c) c ≡ c + cond e 1 0
exact_one true c h = one c h
exact_one false c h = omega arith

cases : (total score : Option Float) (found exact : ℕ) (e : Bool) → found < 18446744073709551615
    → exact < 18446744073709551615
    → (total ≡ None → found ≡ 0) → (total ≡ None → exact ≡ 0)
    → put (made total found exact) score e
    ≡ made (added total score) (found + cond (is_some score) 1 0) (exact + cond (is_some score && e) 1 0)
cases None None found exact e low small nil none = refl
cases (Some s) None found exact e low small nil none =
    let f : found ≡ found + 0 = omega arith in
    let x : exact ≡ exact + 0 = omega arith in
    λ i. Some (record { score = s; found = f i; exact = x i })
cases None (Some v) found exact e low small nil none =
    let f : one_more 0 ≡ found + 1 = one 0 (omega arith) ∙ sym (ap (λ n. n + 1) (nil refl)) in
    let x : cond e (one_more 0) 0 ≡ exact + cond e 1 0 = exact_one e 0 (omega arith)
    ∙ sym (ap (λ n. n + cond e 1 0) (none refl)) in
    λ i. Some (record { score = zero_double +ᵈ v; found = f i; exact = x i })
cases (Some s) (Some v) found exact e low small nil none =
    λ i. Some (record { score = s +ᵈ v; found = one found low i; exact = exact_one e exact small i })

module _ (field : Field) (r : Bytes) where
  same_put : (token : Text) (before : Option Tally) (score : Option Float)
      → put_at (add_tally field token) r before score ≡ put before score (is_some (posting field.table token r))
  same_put token before None = refl
  same_put token before (Some v) = refl

  not_found : (t : Text × List Text) → token_score field t.0 t.1 r ≡ None → is_found field r t ≡ false
  not_found t e = ap is_some e

  not_itself : (t : Text × List Text) → token_score field t.0 t.1 r ≡ None → is_found_itself field r t ≡ false
  not_itself t e = ap (λ o. is_some o && is_some (posting field.table t.0 r)) e

  pub tally_push : (done : List (Text × List Text)) (t : Text × List Text) → length done < 18446744073709551615
      → put_at (add_tally field t.0) r (tally_of field done r) (token_score field t.0 t.1 r)
      ≡ tally_of field (done ++ t ∷ []) r
  tally_push done t small =
      let score = λ (t : Text × List Text). token_score field t.0 t.1 r in
      same_put t.0 (tally_of field done r) (score t)
      ∙ cases (tokens_score field done r) (score t) (count_by (is_found field r) done)
      (count_by (is_found_itself field r) done) (is_some (posting field.table t.0 r))
      (omega (arith, count_by-le-length (is_found field r) done))
      (omega (arith, count_by-le-length (is_found_itself field r) done))
      (none_counted score (is_found field r) not_found done)
      (none_counted score (is_found_itself field r) not_itself done)
      ∙ (λ i. made (sym (sum_push score done t) i) (sym (count_push (is_found field r) done t) i)
      (sym (count_push (is_found_itself field r) done t) i))

  score_cases : (n : ℕ) (looked_up : List (Text × List Text)) → n ≡ length looked_up
      → (before : Option Float) (found exact : ℕ) (total : Option Float)
      → put_at (add_score field n) r before (made total found exact)
      ≡ added before (counted_if field (length looked_up) found exact total)
  score_cases n looked_up e before found exact None = refl
  score_cases n looked_up e before found exact (Some s) = ap (λ m. added before (counted field m found exact s)) e

  -- the score that the tallies give
  pub field_scored : (n : ℕ) (looked_up : List (Text × List Text)) → n ≡ length looked_up → (before : Option Float)
      → put_at (add_score field n) r before (tally_of field looked_up r)
      ≡ added before (field_score field looked_up r)
  field_scored n looked_up e before = score_cases n looked_up e before (count_by (is_found field r) looked_up)
      (count_by (is_found_itself field r) looked_up) (tokens_score field looked_up r)

  -- what a posting adds
  pub weighed : (idf penalty : Float) (before : Option Float) (frequency : Option ℕ)
      → put_at (add_weight field idf penalty) r before frequency
      ≡ added before (option_map (weight field idf penalty r) frequency)
  weighed idf penalty before None = refl
  weighed idf penalty before (Some n) = refl

-- the tallies after the scores of one token more
pub token_counted : (field : Field) (token : Text) (words : List Text) (es : List (Bytes × Float))
    → Scores es (token_score field token words) → (r : Bytes) (before : Option Tally) (done : List (Text × List Text))
    → before ≡ tally_of field done r → length done < 18446744073709551615
    → under (add_tally field token) r before es ≡ tally_of field (done ++ (token, words) ∷ []) r
token_counted field token words es scores r before done was small =
    once (add_tally field token) r before es scores.in_order
    ∙ ap (put_at (add_tally field token) r before) (scores.are r)
    ∙ ap (λ b. put_at (add_tally field token) r b (token_score field token words r)) was
    ∙ tally_push field r done (token, words) small

-- the totals after the tallies of one field more
pub field_counted : (field : Field) (n : ℕ) (looked_up : List (Text × List Text)) → n ≡ length looked_up
    → (es : List (Bytes × Tally)) → Scores es (tally_of field looked_up) → (r : Bytes) (before : Option Float)
    → under (add_score field n) r before es ≡ added before (field_score field looked_up r)
field_counted field n looked_up many es tallies r before =
    once (add_score field n) r before es tallies.in_order
    ∙ ap (put_at (add_score field n) r before) (tallies.are r)
    ∙ field_scored field r n looked_up many before
