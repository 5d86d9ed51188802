-- Several documents, one after the other.
use Rattle.std.proofs.Common.{◌≡◌, ◌<◌, ◌+◌, ◌++◌, ℕ, List, [], ◌∷◌, length, map, take, get_or, Some, option_map, refl}
use Rattle.std.proofs.Common.{sym, ap, subst, ◌∙◌}
use Rattle.std.proofs.lemmas.List.{map-append, take-map}
use Rattle.std.proofs.lemmas.Option.{slice_get-map, slice_get-get_or}
use Rattle.std.specs.List.{AllZip}
use Rattle.serde_json.specs.View.{view}
use Rattle.serde_json.specs.declared.value.Value.{Value}
use Rattle.elasticlunr_job_format.specs.Job.{Document}
use Rattle.elasticlunr_job_format.specs.Objects as objects
use Rattle.elasticlunr_job_format.specs.Objects.{AreDocumentsOf, HasProblem, IsFirstProblem}
use Rattle.elasticlunr_documents.specs.Objects.{FailsObjects}
use Rattle.elasticlunr_job_format.specs.ObjectsTold.{IsMemoryOr}
use Rattle.elasticlunr_documents.specs.ObjectsTold.{stop_at}
use Rattle.elasticlunr_job_format.specs.declared.objects.AddError.{AddError}
use Rattle.elasticlunr_job_format.specs.declared.objects.AddError.TheVariants as add
use Rattle.elasticlunr_documents.specs.declared.objects.ObjectsError.{ObjectsError}
use Rattle.elasticlunr_job_format.specs.declared.objects.ObjectFault.{ObjectFault}
use Rattle.elasticlunr_job_format.proofs.FieldTexts.{AllZip-push}
use Rattle.elasticlunr_job.proofs.Filling.{map_more}

-- one more of each list goes together
pub next_pair : {V A O B : Type 0} (R : A → B → Type 0) (f : V → A) (h : O → B) (xs : List V) (ys ys_after : List O)
    (i : ℕ) (x : V) (y : O) → i < length xs → x ≡ get_or xs i x → AllZip R (map f (take i xs)) (map h ys)
    → R (f x) (h y) → ys_after ≡ ys ++ y ∷ [] → AllZip R (map f (take (i + 1) xs)) (map h ys_after)
next_pair R f h xs ys ys_after i x y lt is so_far pair after =
    subst (λ zs. AllZip R (map f (take (i + 1) xs)) (map h zs)) (sym after)
    (subst (λ bs. AllZip R (map f (take (i + 1) xs)) bs) (sym (map-append h ys (y ∷ [])))
    (subst (λ vs. AllZip R vs (map h ys ++ h y ∷ [])) (sym (map_more f xs i x lt is))
    (AllZip-push R (map f (take i xs)) (map h ys) (f x) (h y) so_far pair)))

-- the values so far are documents, and the next is none
pub first_problem : (options : objects.Options) (vs : List Value) (i : ℕ) (v : Value) (docs : List Document)
    (problem : ObjectFault) → i < length vs → v ≡ get_or vs i v → AreDocumentsOf options (map view (take i vs)) docs
    → HasProblem options (view v) problem → IsFirstProblem options (map view vs) (i + 1) problem
first_problem options vs i v docs problem lt is so_far has = record {
  i = i;
  item = view v;
  before = docs;
  place_is = refl;
  documents = subst (λ ds. AreDocumentsOf options ds docs) (sym (take-map view i vs)) so_far;
  there = slice_get-map view vs i ∙ (ap (option_map view) (slice_get-get_or vs i v lt)
      ∙ ap (λ w. Some (view w)) (sym is));
  has = has;
}

pub fails_at : (options : objects.Options) (vs : List Value) (i : ℕ) (v : Value) (docs : List Document) (e : AddError)
    (stopped : ObjectsError) → stopped ≡ stop_at (i + 1) e → i < length vs → v ≡ get_or vs i v
    → AreDocumentsOf options (map view (take i vs)) docs → IsMemoryOr (HasProblem options (view v)) e
    → FailsObjects options (map view vs) stopped
fails_at options vs i v docs add.Memory stopped gives lt is so_far has = subst (FailsObjects options (map view vs))
    (sym gives) tt
fails_at options vs i v docs (add.ObjectFault problem) stopped gives lt is so_far has =
    subst (FailsObjects options (map view vs)) (sym gives)
    (first_problem options vs i v docs problem lt is so_far has)
