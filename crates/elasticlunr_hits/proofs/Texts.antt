-- Lines, and the texts of hits.
use Rattle.std.proofs.Common.{◌≡◌, ◌<◌, ◌≤◌, ◌+◌, ℕ, List, [], ◌∷◌, ◌++◌, length, take, get_or, string_bytes}
use Rattle.std.proofs.Common.{refl, sym, ap, ◌∙◌, append_assoc, Bool, true, false, Option, Some, None, option_map}
use Rattle.std.proofs.Common.{unwrap_or, if◌then◌else◌, arith}
use Rattle.std.specs.Prelude.{codes}
use Rattle.std.specs.FinMap.{entries}
use Rattle.std.specs.Float.{Float, float_is_finite}
use Rattle.std.specs.List.{AllZip}
use Rattle.std.proofs.lemmas.List.{map-append, take_more}
use Rattle.json.specs.Print.{escape_byte, quoted}
use Rattle.serde_json.specs.Data.{depth, float, null, number, string}
use Rattle.serde_json.specs.Read.{max_depth}
use Rattle.serde_json.specs.Written.{has_float, members_have_float}
use Rattle.elasticlunr_text.specs.Text.{Bytes}
use Rattle.elasticlunr_json.specs.Maps.{members}
use Rattle.elasticlunr_store.specs.Contents.{TextMap}
use Rattle.elasticlunr_ranking.specs.Order.{told_hits}
use Rattle.elasticlunr_ranking.specs.declared.hits.Hit.{Hit}
use Rattle.elasticlunr_search.specs.Lines.{lines}
use Rattle.elasticlunr_hits.specs.Lines.{object_text, score_value, texts_value}

-- one line more
pub lines_more : (xs : List Bytes) (x before after last : Bytes) → before ≡ lines xs → after ≡ before ++ x
    → last ≡ after ++ 10 ∷ [] → last ≡ lines (xs ++ x ∷ [])
lines_more [] x before after last b a l = l ∙ ap (λ t. t ++ 10 ∷ []) (a ∙ ap (λ t. t ++ x) b)
lines_more (y ∷ xs) x before after last b a l =
    l ∙ ap (λ t. t ++ 10 ∷ []) (a ∙ ap (λ t. t ++ x) b)
    ∙ ap (λ t. t ++ 10 ∷ []) (append_assoc y (10 ∷ lines xs) x)
    ∙ append_assoc y (10 ∷ (lines xs ++ x)) (10 ∷ [])
    ∙ ap (λ t. y ++ 10 ∷ t) (lines_more xs x (lines xs) (lines xs ++ x) ((lines xs ++ x) ++ 10 ∷ []) refl refl refl)

-- one hit more
pub told_more : (hits : List Hit) (i : ℕ) (hit : Hit) → i < length hits → hit ≡ get_or hits i hit
    → told_hits (take (i + 1) hits) ≡ told_hits (take i hits) ++ (string_bytes hit.reference, hit.score) ∷ []
told_more hits i hit lt at = ap told_hits (take_more hits i hit lt ∙ ap (λ h. take i hits ++ h ∷ []) (sym at))
    ∙ map-append (λ h. (string_bytes h.reference, h.score)) (take i hits) (hit ∷ [])

-- one pair more
pub zip_more : {X Y : Type 0} (P : X → Y → Type 0) (xs : List X) (ys : List Y) (x : X) (y : Y) → AllZip P xs ys → P x y
    → AllZip P (xs ++ x ∷ []) (ys ++ y ∷ [])
zip_more P [] [] x y h p = (p, tt)
zip_more P [] (z ∷ ys) x y h p = absurd h
zip_more P (z ∷ xs) [] x y h p = absurd h
zip_more P (z ∷ xs) (w ∷ ys) x y h p = (h.0, zip_more P xs ys x y h.1 p)

-- the value of a score is no array and no object
pub flat : (score : Float) → depth (score_value score) ≤ max_depth
flat score = by (float_is_finite score) where
  by : (b : Bool) → depth (unwrap_or (option_map number (if b then Some (float score) else None)) null) ≤ 127
  by true = omega arith
  by false = omega arith

texts_alone : (es : List (Bytes × Bytes)) → members_have_float (members string es) ≡ false
texts_alone [] = refl
texts_alone (e ∷ es) = texts_alone es

-- stored texts have no fraction
pub no_fraction : (texts : Option TextMap) → has_float (texts_value texts) ≡ false
no_fraction None = refl
no_fraction (Some texts) = texts_alone (entries texts)

-- the texts of the keys
ref_key : quoted (codes "ref") ≡ 34 ∷ 114 ∷ 101 ∷ 102 ∷ 34 ∷ []
unfolding escape_byte
ref_key = refl

score_key : quoted (codes "score") ≡ 34 ∷ 115 ∷ 99 ∷ 111 ∷ 114 ∷ 101 ∷ 34 ∷ []
unfolding escape_byte
score_key = refl

doc_key : quoted (codes "doc") ≡ 34 ∷ 100 ∷ 111 ∷ 99 ∷ 34 ∷ []
unfolding escape_byte
doc_key = refl

regroup : (reference score document : Bytes)
    → (123 ∷ 34 ∷ 114 ∷ 101 ∷ 102 ∷ 34 ∷ 58 ∷ []) ++ (reference
    ++ ((44 ∷ 34 ∷ 115 ∷ 99 ∷ 111 ∷ 114 ∷ 101 ∷ 34 ∷ 58 ∷ []) ++ (score
    ++ ((44 ∷ 34 ∷ 100 ∷ 111 ∷ 99 ∷ 34 ∷ 58 ∷ []) ++ (document ++ 125 ∷ [])))))
    ≡ 123 ∷ ((34 ∷ 114 ∷ 101 ∷ 102 ∷ 34 ∷ []) ++ 58 ∷ reference)
    ++ 44 ∷ ((34 ∷ 115 ∷ 99 ∷ 111 ∷ 114 ∷ 101 ∷ 34 ∷ []) ++ 58 ∷ score)
    ++ 44 ∷ ((34 ∷ 100 ∷ 111 ∷ 99 ∷ 34 ∷ []) ++ 58 ∷ document) ++ 125 ∷ []
regroup reference score document =
    let second : Bytes = 44 ∷ 34 ∷ 115 ∷ 99 ∷ 111 ∷ 114 ∷ 101 ∷ 34 ∷ 58 ∷ score in
    let third : Bytes = 44 ∷ 34 ∷ 100 ∷ 111 ∷ 99 ∷ 34 ∷ 58 ∷ document in
    let last : Bytes = 125 ∷ [] in
    ap (λ t. 123 ∷ 34 ∷ 114 ∷ 101 ∷ 102 ∷ 34 ∷ 58 ∷ t)
    (sym (append_assoc (reference ++ second) third last ∙ append_assoc reference second (third ++ last)))

-- the text of an object, as it is put together
pub put_together : (reference score document text : Bytes)
    → text ≡ (123 ∷ 34 ∷ 114 ∷ 101 ∷ 102 ∷ 34 ∷ 58 ∷ []) ++ (reference
    ++ ((44 ∷ 34 ∷ 115 ∷ 99 ∷ 111 ∷ 114 ∷ 101 ∷ 34 ∷ 58 ∷ []) ++ (score
    ++ ((44 ∷ 34 ∷ 100 ∷ 111 ∷ 99 ∷ 34 ∷ 58 ∷ []) ++ (document ++ 125 ∷ [])))))
    → text ≡ object_text reference score document
put_together reference score document text is = is ∙ regroup reference score document
    ∙ (λ j. 123 ∷ (sym ref_key j ++ 58 ∷ reference) ++ 44 ∷ (sym score_key j ++ 58 ∷ score)
    ++ 44 ∷ (sym doc_key j ++ 58 ∷ document) ++ 125 ∷ [])
