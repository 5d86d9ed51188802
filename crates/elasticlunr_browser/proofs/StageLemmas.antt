-- Words and stages, as loops put them together.
use Rattle.std.proofs.Common.{◌≡◌, ◌<◌, ◌≤◌, ◌+◌, ℕ, length, take, get_or, subst, option_map, List, [], ◌∷◌, ◌++◌}
use Rattle.std.proofs.Common.{String, string_bytes, bytes_eq, map, Option, Some, None, option_to_list, refl, sym, ap}
use Rattle.std.proofs.Common.{◌∙◌}
use Rattle.std.specs.List.{AllZip, filter_map}
use Rattle.std.specs.List.Sorted.{IsPermutation}
use Rattle.std.specs.Str.{chars}
use Rattle.std.specs.declared.alloc.Global.{Global}
use Rattle.std.proofs.lemmas.List.{map-append, take_more, take_all}
use Rattle.std.proofs.lemmas.List.Sorted.{list_any-IsPermutation, IsPermutation-map}
use Rattle.std.proofs.lemmas.List.Elements.{filter_map-append}
use Rattle.serde_json.specs.Data.{Data}
use Rattle.serde_json.specs.View.{view}
use Rattle.serde_json.specs.declared.value.Value.{Value}
use Rattle.elasticlunr_text.specs.Text.{Text, text_of, texts_of, is_listed}
use Rattle.elasticlunr_text.specs.declared.pipeline.stage.Stage.{Stage}
use Rattle.elasticlunr_browser.specs.Kinds.{HoldsStage, HoldsStages}

-- one word more
pub texts_of-clone : (words new seen : List (String Global)) (word copy : String Global) → texts_of words
    ≡ texts_of seen → string_bytes copy ≡ string_bytes word → new ≡ words ++ copy ∷ [] → texts_of new
    ≡ texts_of (seen ++ word ∷ [])
texts_of-clone words new seen word copy same copied is =
    ap texts_of is ∙ map-append text_of words (copy ∷ []) ∙ ap (λ ts. ts ++ text_of copy ∷ []) same
    ∙ ap (λ bs. texts_of seen ++ chars bs ∷ []) copied
    ∙ sym (map-append text_of seen (word ∷ []))

-- words in another order
pub listed-sorted : (keys old new : List (String Global)) (token : Text) → texts_of old ≡ texts_of keys
    → IsPermutation old new → is_listed token (texts_of keys) ≡ is_listed token (texts_of new)
listed-sorted keys old new token same moved =
    ap (is_listed token) (sym same) ∙ list_any-IsPermutation (bytes_eq token) (texts_of old) (texts_of new)
    (IsPermutation-map text_of old new moved)

pub push_both : {A B : Type 0} (R : A → B → Type 0) (xs : List A) (ys : List B) (x : A) (y : B) → AllZip R xs ys → R x y
    → AllZip R (xs ++ x ∷ []) (ys ++ y ∷ [])
push_both R [] [] x y all r = (r, tt)
push_both R [] (z ∷ ys) x y all r = absurd all
push_both R (z ∷ xs) [] x y all r = absurd all
push_both R (z ∷ xs) (w ∷ ys) x y all r = (all.0, push_both R xs ys x y all.1 r)

-- what was found, as values of JSON
pub viewed : (found : Option Value) → map view (option_to_list found) ≡ option_to_list (option_map view found)
viewed None = refl
viewed (Some v) = refl

-- one stage more, of which a script holds something or not
module _ {f x p calls : _} where
  pub one_more : (stages : List (Stage f x p calls)) (stage : Stage f x p calls) (ds : List Data) (found : Option Data)
      → HoldsStages stages ds → HoldsStage stage found
      → HoldsStages (stages ++ stage ∷ []) (ds ++ option_to_list found)
  one_more stages stage ds found are is = (
    are.0 ++ found ∷ [],
    push_both HoldsStage stages are.0 stage found are.1 is,
    ap (λ es. es ++ option_to_list found) are.2 ∙ shown found,
  )
    where
      shown : (found : Option Data) → filter_map (λ d. d) are.0 ++ option_to_list found
          ≡ filter_map (λ d. d) (are.0 ++ found ∷ [])
      shown None = sym (filter_map-append (λ d. d) are.0 (None ∷ []))
      shown (Some d) = sym (filter_map-append (λ d. d) are.0 (Some d ∷ []))

  -- and what was found, as a loop over the stages finds it
  pub one_stage : (stages : List (Stage f x p calls)) (i : ℕ) (stage : Stage f x p calls) (old new : List Value)
      (found : Option Value) → i < length stages → stage ≡ get_or stages i stage
      → HoldsStages (take i stages) (map view old) → HoldsStage stage (option_map view found) → new
      ≡ old ++ option_to_list found → HoldsStages (take (i + 1) stages) (map view new)
  one_stage stages i stage old new found inside at are is put =
      let more : take (i + 1) stages ≡ take i stages ++ stage ∷ [] = take_more stages i stage inside
      ∙ ap (λ s. take i stages ++ s ∷ []) (sym at) in
      let values : map view new ≡ map view old ++ option_to_list (option_map view found) = ap (map view) put
      ∙ map-append view old (option_to_list found) ∙ ap (λ ds. map view old ++ ds) (viewed found) in
      subst (λ ss. HoldsStages ss (map view new)) (sym more)
      (subst (HoldsStages (take i stages ++ stage ∷ [])) (sym values)
      (one_more (take i stages) stage (map view old) (option_map view found) are is))

  pub all_stages : (stages : List (Stage f x p calls)) (i : ℕ) (ds : List Data) → length stages ≤ i
      → HoldsStages (take i stages) ds → HoldsStages stages ds
  all_stages stages i ds past are = subst (λ ss. HoldsStages ss ds) (take_all i stages past) are
