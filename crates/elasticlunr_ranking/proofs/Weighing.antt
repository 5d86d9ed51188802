-- Steps of the loops that take in postings, scores and tallies. In each `old` and `new` are what the map has before and
-- after the step, and the entry is that at i, whatever d is read past the end.
use Rattle.std.proofs.Common.{◌≡◌, ◌<◌, ◌+◌, ℕ, Bool, List, Option, Some, is_some, length, take, get_or, refl, sym, ap}
use Rattle.std.proofs.Common.{◌∙◌, bytes_eq}
use Rattle.std.specs.Prelude.{unwrap_or}
use Rattle.std.specs.Borrow.{Bor}
use Rattle.std.specs.FinMap as finite
use Rattle.std.specs.Float.{Float}
use Rattle.std.specs.Map.{update}
use Rattle.elasticlunr_error.specs.Text.{Text, Bytes}
use Rattle.elasticlunr_store.specs.Contents.{field_length}
use Rattle.elasticlunr_trie.specs.Table.{posting, postings}
use Rattle.elasticlunr_ranking.specs.Doubles.{◌+ᵈ◌, ◌*ᵈ◌, whole}
use Rattle.elasticlunr_ranking.specs.Fields.{Field}
use Rattle.elasticlunr_ranking.specs.Held.{add_weight, told, under}
use Rattle.elasticlunr_ranking.specs.Tallies.{add_score, add_tally, tallied, tally_score}
use Rattle.elasticlunr_ranking.specs.Weights.{added, idf_of, norm_of, part, penalty_of}
use Rattle.elasticlunr_ranking.specs.Numbers.{zero_double}
use Rattle.elasticlunr_ranking.specs.declared.tally.Tally.{Tally}
use Rattle.elasticlunr_ranking.proofs.Tallying.{weighed}
use Rattle.elasticlunr_ranking.proofs.Under.{loop_step, once, put_at}

module _ (field : Field) (start old new : Bytes → Option Float) where
  pub posting_step : (idf penalty : Float) (es : List (Bor Bytes × ℕ)) (i : ℕ) (d : Bor Bytes × ℕ) → i < length es
      → (score norm tf : Float) → score ≡ unwrap_or (old (get_or es i d).0.now) zero_double
      → norm ≡ norm_of (field_length field.contents (get_or es i d).0.now field.name)
      → tf ≡ whole (get_or es i d).1
      → ((r : Bytes) → old r ≡ under (add_weight field idf penalty) r (start r) (told (take i es)))
      → ((r : Bytes) → new r ≡ update bytes_eq old (get_or es i d).0.now
      (Some (score +ᵈ tf *ᵈ idf *ᵈ norm *ᵈ penalty)) r)
      → (r : Bytes) → new r ≡ under (add_weight field idf penalty) r (start r) (told (take (i + 1) es))
  posting_step idf penalty es i d lt score norm tf s n t was updates =
      let e = get_or es i d in
      let w : Some (score +ᵈ tf *ᵈ idf *ᵈ norm *ᵈ penalty) ≡ add_weight field idf penalty e.0.now (old e.0.now) e.1 =
      (λ j. Some (s j +ᵈ t j *ᵈ idf *ᵈ n j *ᵈ penalty)) in
      loop_step (add_weight field idf penalty) es i d lt e refl start old new was
      (λ r. updates r ∙ ap (λ x. update bytes_eq old e.0.now x r) w)

  pub score_step : (n : ℕ) (es : List (Bor Bytes × Tally)) (i : ℕ) (d : Bor Bytes × Tally) → i < length es
      → (score : Option Float) → score ≡ tally_score field n (get_or es i d).1
      → ((r : Bytes) → old r ≡ under (add_score field n) r (start r) (told (take i es)))
      → ((r : Bytes) → new r ≡ update bytes_eq old (get_or es i d).0.now (added (old (get_or es i d).0.now) score) r)
      → (r : Bytes) → new r ≡ under (add_score field n) r (start r) (told (take (i + 1) es))
  score_step n es i d lt score s was updates =
      let e = get_or es i d in
      loop_step (add_score field n) es i d lt e refl start old new was
      (λ r. updates r ∙ ap (λ x. update bytes_eq old e.0.now (added (old e.0.now) x) r) s)

pub tally_step : (field : Field) (token : Text) (start old new : Bytes → Option Tally) (es : List (Bor Bytes × Float))
    (i : ℕ) (d : Bor Bytes × Float) → i < length es → (before : Option Tally) (exact : Bool) (tally : Tally)
    → before ≡ old (get_or es i d).0.now → exact ≡ is_some (posting field.table token (get_or es i d).0.now)
    → tally ≡ tallied before (get_or es i d).1 exact
    → ((r : Bytes) → old r ≡ under (add_tally field token) r (start r) (told (take i es)))
    → ((r : Bytes) → new r ≡ update bytes_eq old (get_or es i d).0.now (Some tally) r)
    → (r : Bytes) → new r ≡ under (add_tally field token) r (start r) (told (take (i + 1) es))
tally_step field token start old new es i d lt before exact tally b x t was updates =
    let e = get_or es i d in
    let w : Some tally ≡ add_tally field token e.0.now (old e.0.now) e.1 =
    ap Some t ∙ (λ j. Some (tallied (b j) e.1 (x j))) in
    loop_step (add_tally field token) es i d lt e refl start old new was
    (λ r. updates r ∙ ap (λ y. update bytes_eq old e.0.now y r) w)

-- what the postings of a word add
pub word_added : (field : Field) (token word : Text) (es : List (Bytes × ℕ))
    → es ≡ finite.entries (postings field.table word)
    → (idf penalty : Float) (documents found : ℕ) → documents ≡ finite.len field.contents.texts → found ≡ length es
    → idf ≡ idf_of documents found → penalty ≡ penalty_of token word → (r : Bytes) (before : Option Float)
    → under (add_weight field idf penalty) r before es ≡ added before (part field token word r)
word_added field token word es are idf penalty documents found n m i p r before =
    let found_is : found ≡ finite.len (postings field.table word) =
    m ∙ ap length are ∙ sym (finite.len-entries (postings field.table word)) in
    let idf_is : idf ≡ idf_of (finite.len field.contents.texts) (finite.len (postings field.table word)) =
    i ∙ (λ j. idf_of (n j) (found_is j)) in
    (λ j. under (add_weight field (idf_is j) (p j)) r before (are j))
    ∙ once (add_weight field (idf_of (finite.len field.contents.texts) (finite.len (postings field.table word)))
    (penalty_of token word)) r before (finite.entries (postings field.table word))
    (finite.entries_sorted (postings field.table word))
    ∙ ap (put_at (add_weight field (idf_of (finite.len field.contents.texts)
    (finite.len (postings field.table word))) (penalty_of token word)) r before)
    (sym (finite.get-entries (postings field.table word) r))
    ∙ weighed field r (idf_of (finite.len field.contents.texts) (finite.len (postings field.table word)))
    (penalty_of token word) before (posting field.table word r)
