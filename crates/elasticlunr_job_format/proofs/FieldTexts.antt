-- Documents among JSON objects.
use Rattle.std.proofs.Common.{◌≡◌, ◌<◌, ◌+◌, ◌++◌, ℕ, List, [], ◌∷◌, length, map, take, get_or, Bor, Option, option_map, sym, ap}
use Rattle.std.proofs.Common.{subst, ◌∙◌, Result, Ok, Err, IfErr, IsErrAnd}
use Rattle.std.proofs.lemmas.List.{take-map, map_more, map-append}
use Rattle.std.proofs.lemmas.Option.{slice_get-map, slice_get-get_or}
use Rattle.std.specs.List.{AllZip}
use Rattle.serde_json.specs.Data.{Data}
use Rattle.elasticlunr_job_format.specs.Objects.{Options, HasNoText, HasReference, HasText, HasTexts}
use Rattle.elasticlunr_job_format.specs.Objects.{HasProblem, IsFirstWithoutText}
use Rattle.elasticlunr_job_format.specs.ObjectsTold.{HasFieldProblem, HasTextOr, HaveTextsOr, IsMemoryOr}
use Rattle.elasticlunr_job_format.specs.ObjectsTold.{text_or, texts_told}
use Rattle.elasticlunr_job_format.specs.declared.kind.Kind.{Kind}
use Rattle.elasticlunr_job_format.specs.declared.objects.AddError.{AddError}
use Rattle.elasticlunr_job_format.specs.declared.objects.AddError.TheVariants as add
use Rattle.elasticlunr_job_format.specs.declared.objects.ObjectFault.TheVariants.{NotJson, NotAnObject, NoReference}
use Rattle.elasticlunr_job_format.specs.declared.objects.ObjectFault.TheVariants.{NotAReference, NotAText}

pub AllZip-push : {A B : Type 0} (R : A → B → Type 0) (xs : List A) (ys : List B) (x : A) (y : B) → AllZip R xs ys
    → R x y → AllZip R (xs ++ x ∷ []) (ys ++ y ∷ [])
AllZip-push R [] [] x y all r = (r, tt)
AllZip-push R [] (b ∷ ys) x y all r = absurd all
AllZip-push R (a ∷ xs) [] x y all r = absurd all
AllZip-push R (a ∷ xs) (b ∷ ys) x y all r = (all.0, AllZip-push R xs ys x y all.1 r)

module _ (options : Options) (d : Data) (fields : List (Bor (List ℕ))) (i : ℕ) (e : Bor (List ℕ))
    (texts : List (Option (Bor (List ℕ)))) (lt : i < length fields)
    (before : HaveTextsOr options d (texts_told (take i fields)) texts) where
  -- the fields so far have texts, and the next has none
  pub first_without : (found : Kind) (reference : List ℕ) → HasReference options d reference
      → HasNoText options d (get_or fields i e).now found → IsFirstWithoutText options d (texts_told fields) i found
  first_without found reference has none = record {
    field = (get_or fields i e).now;
    texts = map (text_or reference) texts;
    before = subst (λ fs. HasTexts options d fs (map (text_or reference) texts)) (sym (take-map (λ s. s.now) i fields))
        (before reference has);
    there = slice_get-map (λ s. s.now) fields i ∙ ap (option_map (λ s. s.now)) (slice_get-get_or fields i e lt);
    no_text = none;
  }

  -- the next field has a text, too
  pub next_text : (texts_after : List (Option (Bor (List ℕ)))) (text : Option (Bor (List ℕ)))
      → HasTextOr options d (get_or fields i e).now text → texts_after ≡ texts ++ text ∷ []
      → HaveTextsOr options d (texts_told (take (i + 1) fields)) texts_after
  next_text texts_after text next after reference has =
      subst (λ ts. HasTexts options d (texts_told (take (i + 1) fields)) (map (text_or reference) ts)) (sym after)
      (subst (HasTexts options d (texts_told (take (i + 1) fields)))
      (sym (map-append (text_or reference) texts (text ∷ [])))
      (subst (λ fs. HasTexts options d fs (map (text_or reference) texts ++ text_or reference text ∷ []))
      (sym (map_more (λ s. s.now) fields i e lt))
      (AllZip-push (HasText options d) (texts_told (take i fields)) (map (text_or reference) texts)
      (get_or fields i e).now (text_or reference text) (before reference has) (next reference has))))

-- a problem of a field is one of the object, which has a reference
pub field_exit : {T : Type 0} (options : Options) (d : Data) (r : Result T AddError) (e : AddError)
    (reference : List ℕ) → IsErrAnd r (λ y. y ≡ e) → HasReference options d reference
    → IsMemoryOr (HasFieldProblem options d options.fields) e → IfErr r (IsMemoryOr (HasProblem options d))
field_exit options d (Ok x) e reference is has problem = absurd is
field_exit options d (Err y) e reference is has problem =
    subst (IsMemoryOr (HasProblem options d)) (sym is) (of_object e problem) where
      of_object : (e : AddError) → IsMemoryOr (HasFieldProblem options d options.fields) e
          → IsMemoryOr (HasProblem options d) e
      of_object add.Memory problem = tt
      of_object (add.ObjectFault NotJson) problem = absurd problem
      of_object (add.ObjectFault (NotAnObject found)) problem = absurd problem
      of_object (add.ObjectFault NoReference) problem = absurd problem
      of_object (add.ObjectFault (NotAReference found)) problem = absurd problem
      of_object (add.ObjectFault (NotAText i found)) problem = (reference, has, problem reference has)
