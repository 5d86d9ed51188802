-- What a trimmer and a stage of the caller's leave.
use Rattle.std.proofs.Common.{◌≡◌, List, [], ◌∷◌, Option, None, Some, map, filter_map, codes, refl, sym, ap, subst, ◌∙◌}
use Rattle.std.specs.Prelude.{MatchOption}
use Rattle.std.specs.List.{AllZip, cons_option}
use Rattle.std.specs.declared.alloc.Global.{Global}
use Rattle.std.specs.declared.dyn_box.DynBox.{DynBox}
use Rattle.elasticlunr.specs.Text.{Text, Bytes}
use Rattle.elasticlunr.specs.Stages.{stage_name, MayLeaveAll, MayRun}
use Rattle.elasticlunr.specs.Trimmed.{trimmed, is_word_char}
use Rattle.elasticlunr.specs.Stage.{Stage}
use Rattle.elasticlunr.specs.Stage.TheVariants.{EnglishTrimmer, Own}

-- where no stage follows
left_last : (first left : Option Text) → MatchOption first (left ≡ None) (λ t. left ≡ Some t) → left ≡ first
left_last None left is = is
left_last (Some t) left is = is

-- what is left of each item, without those of which nothing is left
kept : {X Y : Type 0} (f : X → Option Y) (xs : List X) (lefts : List (Option Y))
    → AllZip (λ x left. left ≡ f x) xs lefts → filter_map (λ left. left) lefts ≡ filter_map f xs
kept f [] [] each = refl
kept f [] (left ∷ lefts) each = absurd each
kept f (x ∷ xs) [] each = absurd each
kept f (x ∷ xs) (left ∷ lefts) each = ap (λ o. cons_option o (filter_map (λ left. left) lefts)) each.0
    ∙ ap (cons_option (f x)) (kept f xs lefts each.1)

zip_more : {X Y : Type 0} (R Q : X → Y → Type 0) → ((x : X) (y : Y) → R x y → Q x y) → (xs : List X) (ys : List Y)
    → AllZip R xs ys → AllZip Q xs ys
zip_more R Q more [] [] each = tt
zip_more R Q more [] (y ∷ ys) each = absurd each
zip_more R Q more (x ∷ xs) [] each = absurd each
zip_more R Q more (x ∷ xs) (y ∷ ys) each = (more x y each.0, zip_more R Q more xs ys each.1)

-- what a step has whose table is at this place
of_step : {x Y : Type 0} {p : x → Type 0} (step : DynBox x Global p) (place : x) → step.vtable ≡ place
    → (member : DynBox x Global p → Y) (y : Y)
    → ((value : p place) → member (record { ptr = step.ptr; vtable = place; alloc = step.alloc; value = value }) ≡ y)
    → member step ≡ y
of_step {x} {Y} {p} step place is member y here =
    subst (λ v. (value : p v) → member (record { ptr = step.ptr; vtable = v; alloc = step.alloc; value = value }) ≡ y)
    (sym is) here step.value

-- In each lemma the stages are the trimmer and a step of the caller's, whose table is at this place.
module _ {f x : Type 0} {p : x → Type 0} {calls : _} (step : DynBox x Global p) (place : x) (is : step.vtable ≡ place)
  where
    -- their names
    pub names_are : (name_text : DynBox x Global p → Bytes) (stages : List (Stage f x p calls)) → stages ≡ EnglishTrimmer
        ∷ Own step ∷ []
        → (name : Bytes) → ((value : p place) →
        name_text (record { ptr = step.ptr; vtable = place; alloc = step.alloc; value = value }) ≡ name)
        → map (stage_name name_text) stages ≡ codes "trimmer" ∷ name ∷ []
    names_are name_text stages are name its = ap (map (stage_name name_text)) are
        ∙ ap (λ n. codes "trimmer" ∷ n ∷ []) (of_step step place is name_text name its)

    one_left : (leaves : DynBox x Global p → Text → Option Text) (own : Text → Option Text)
        → ((token : Text) (value : p place) → leaves
        (record { ptr = step.ptr; vtable = place; alloc = step.alloc; value = value }) token ≡ own token)
        → (stages : List (Stage f x p calls)) → stages ≡ EnglishTrimmer ∷ Own step ∷ []
        → (token : Text) (left : Option Text) → MayLeaveAll leaves stages token left → left
        ≡ own (trimmed is_word_char token)
    one_left leaves own does stages are token left run =
        let ran = subst (λ ss. MayLeaveAll leaves ss token left) are run in
        let after = subst (λ o. MatchOption o (left ≡ None) (λ t. (second : Option Text) × (second ≡ leaves step t)
        × MatchOption second (left ≡ None) (λ u. left ≡ Some u))) ran.1 ran.2 in
        let t = trimmed is_word_char token in
        left_last after.0 left after.2 ∙ (after.1 ∙ of_step step place is (λ s. leaves s t) (own t) (does t))

    -- what they leave: of each trimmed token what the step leaves
    pub trims_and_leaves : (leaves : DynBox x Global p → Text → Option Text) (own : Text → Option Text)
        → ((token : Text) (value : p place) → leaves
        (record { ptr = step.ptr; vtable = place; alloc = step.alloc; value = value }) token ≡ own token)
        → (stages : List (Stage f x p calls)) → stages ≡ EnglishTrimmer ∷ Own step ∷ [] → (tokens texts : List Text)
        → MayRun leaves stages tokens texts → texts ≡ filter_map (λ token. own (trimmed is_word_char token)) tokens
    trims_and_leaves leaves own does stages are tokens texts run = run.2
        ∙ kept (λ token. own (trimmed is_word_char token)) tokens run.0
        (zip_more _ _ (one_left leaves own does stages are) tokens run.0 run.1)
