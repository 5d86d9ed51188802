-- Steps that are looked up, steps that always apply, and steps that follow each other.
use Rattle.std.proofs.Common.{◌≡◌, ℕ, zero, suc, ◌+◌, ◌-◌, ◌≤◌, ◌<◌, Bool, true, false, IsTrue, List, [], ◌∷◌, ◌++◌, length, take, drop, map, Result, Ok, Err, IfOk}
use Rattle.std.proofs.Common.{refl, sym, ◌∙◌, ap, subst, arith, cond, Option, Some, None, ◌≢◌, option_map, get_or}
use Rattle.std.specs.Prelude.{nat_lt, ◌||◌, not}
use Rattle.std.specs.Option.{is_some}
use Rattle.std.specs.List.{list_all, slice_get}
use Rattle.std.proofs.lemmas.List.{length-take-le, drop-take}
use Rattle.elasticlunr_error.specs.Text.{Text}
use Rattle.elasticlunr_stems.specs.Tables.{Row, Kind, Step, add, within, one, twin, run, cut, both, either, fails, keep, sweep}
use Rattle.elasticlunr_stems.specs.Stems.{applied, outcome, outcome_at, and_then, or_else, longest, longer, ends_in}
use Rattle.elasticlunr_stems.specs.Safe.{is_safe, are_safe, applies_at, shortens_at, kind_applies, kind_shortens, kind_is_safe, applies}
use Rattle.elasticlunr_stems.specs.declared.step.Step.{Step as StepHeld}
use Rattle.elasticlunr_stems.specs.Views.{step_of, steps_of}
use Rattle.elasticlunr_stems.specs.Runs.{Gives, Stays}
use Rattle.elasticlunr_stems.proofs.BoolLemmas.{and-left, and-right, false≢true}

pub IfOk-map : {T E : Type 0} (P Q : T → Type 0) (r : Result T E) → ((x : T) → P x → Q x) → IfOk r P → IfOk r Q
IfOk-map P Q (Ok x) f h = f x h
IfOk-map P Q (Err e) f h = h

pub slice_get-map : {X Y : Type 0} (f : X → Y) (xs : List X) (i : ℕ) → slice_get (map f xs) i ≡ option_map f (slice_get xs i)
slice_get-map f [] i = refl
slice_get-map f (x ∷ xs) zero = refl
slice_get-map f (x ∷ xs) (suc i) = slice_get-map f xs i

-- what holds of all holds of each that is looked up
PassesIf : {X : Type 0} → (X → Bool) → Option X → Type 0
PassesIf p None = Unit {0}
PassesIf p (Some x) = p x ≡ true

list_all-at : {X : Type 0} (p : X → Bool) (xs : List X) (i : ℕ) → list_all p xs ≡ true → PassesIf p (slice_get xs i)
unfolding PassesIf
list_all-at p [] i h = tt
list_all-at p (x ∷ xs) zero h = and-left (p x) (list_all p xs) h
list_all-at p (x ∷ xs) (suc i) h = list_all-at p xs i (and-right (p x) (list_all p xs) h)

pub all-found : {X : Type 0} (p : X → Bool) (xs : List X) (i : ℕ) (x : X) → list_all p xs ≡ true
    → slice_get xs i ≡ Some x → p x ≡ true
unfolding PassesIf
all-found p xs i x h e = subst (PassesIf p) e (list_all-at p xs i h)

pub applied-some : (S : List Step) (R : List ℕ) (depth n : ℕ) (s : Step) (x : Text) → depth ≢ 0
    → slice_get S n ≡ Some s → applied S R depth n x ≡ outcome (applied S R (depth - 1)) R s.kind x
unfolding applied
applied-some S R zero n s x h e = absurd (h refl)
applied-some S R (suc d) n s x h e =
    ap (λ o. outcome_at (applied S R d) R o x) e
    ∙ ap (λ (k : ℕ). outcome (applied S R k) R s.kind x) (let k : d ≡ suc d - 1 = omega arith in k)

pub applied-none : (S : List Step) (R : List ℕ) (depth n : ℕ) (x : Text)
    → slice_get S n ≡ None → applied S R depth n x ≡ Some x
unfolding applied
applied-none S R zero n x e = refl
applied-none S R (suc d) n x e = ap (λ o. outcome_at (applied S R d) R o x) e

and_then-some : (g : Text → Option Text) (o : Option Text) → is_some o ≡ true
    → ((y : Text) → is_some (g y) ≡ true) → is_some (and_then g o) ≡ true
and_then-some g None h k = h
and_then-some g (Some y) h k = k y

or_else-left : (o p : Option Text) → is_some o ≡ true → is_some (or_else o p) ≡ true
or_else-left None p h = absurd (false≢true h)
or_else-left (Some y) p h = refl

or_else-right : (o p : Option Text) → is_some p ≡ true → is_some (or_else o p) ≡ true
or_else-right None p h = h
or_else-right (Some y) p h = refl

option_map-some : (f : Text → Text) (o : Option Text) → is_some o ≡ true → is_some (option_map f o) ≡ true
option_map-some f None h = h
option_map-some f (Some y) h = refl

or-case : (a b : Bool) (P : Type 0) → (a || b) ≡ true → (a ≡ true → P) → (b ≡ true → P) → P
or-case true b P h f g = f refl
or-case false b P h f g = g h

outcome-applies : (S : List Step) (R : List ℕ) (f : ℕ → Text → Option Text)
    → ((n : ℕ) (x : Text) → applies_at S n ≡ true → is_some (f n x) ≡ true)
    → (k : Kind) (x : Text) → kind_applies S k ≡ true → is_some (outcome f R k x) ≡ true
unfolding outcome
outcome-applies S R f firm (add end) x h = refl
outcome-applies S R f firm (within k) x h = absurd (false≢true h)
outcome-applies S R f firm (one class) x h = absurd (false≢true h)
outcome-applies S R f firm (twin class) x h = absurd (false≢true h)
outcome-applies S R f firm (run class) x h = refl
outcome-applies S R f firm (cut k rows) x h = absurd (false≢true h)
outcome-applies S R f firm (both a b) x h =
    and_then-some (f b) (f a x) (firm a x (and-left (applies_at S a) (applies_at S b) h))
    (λ y. firm b y (and-right (applies_at S a) (applies_at S b) h))
outcome-applies S R f firm (either a b) x h =
    or-case (applies_at S a) (applies_at S b) (is_some (or_else (f a x) (f b x)) ≡ true) h
    (λ l. or_else-left (f a x) (f b x) (firm a x l)) (λ r. or_else-right (f a x) (f b x) (firm b x r))
outcome-applies S R f firm (fails a) x h = absurd (false≢true h)
outcome-applies S R f firm (keep a b) x h =
    and_then-some _ (f a x) (firm a x (and-left (applies_at S a) (applies_at S b) h))
    (λ y. option_map-some _ (f b y) (firm b y (and-right (applies_at S a) (applies_at S b) h)))
outcome-applies S R f firm (sweep class a) x h = refl

declared : (a b : Bool) → (not a || b) ≡ true → a ≡ true → b ≡ true
declared true b h k = h
declared false b h k = absurd (false≢true k)

step-applies : (S : List Step) (s : Step) → is_safe S s ≡ true → s.always_applies ≡ true → kind_applies S s.kind ≡ true
step-applies S s h k =
    declared s.always_applies (kind_applies S s.kind)
    (and-right (not s.only_shortens || kind_shortens S s.kind) (not s.always_applies || kind_applies S s.kind)
    (and-left _ (kind_is_safe S s.kind) h)) k

pub step-shortens : (S : List Step) (s : Step) → is_safe S s ≡ true → s.only_shortens ≡ true → kind_shortens S s.kind ≡ true
step-shortens S s h k =
    declared s.only_shortens (kind_shortens S s.kind)
    (and-left (not s.only_shortens || kind_shortens S s.kind) (not s.always_applies || kind_applies S s.kind)
    (and-left _ (kind_is_safe S s.kind) h)) k

pub step-is-safe : (S : List Step) (s : Step) → is_safe S s ≡ true → kind_is_safe S s.kind ≡ true
step-is-safe S s h = and-right _ (kind_is_safe S s.kind) h

found-applies : (S : List Step) (R : List ℕ) (f : ℕ → Text → Option Text)
    → ((n : ℕ) (x : Text) → applies_at S n ≡ true → is_some (f n x) ≡ true)
    → (o : Option Step) (x : Text) → PassesIf (is_safe S) o → applies o ≡ true
    → is_some (outcome_at f R o x) ≡ true
unfolding PassesIf
found-applies S R f firm None x safe h = refl
found-applies S R f firm (Some s) x safe h =
    outcome-applies S R f firm s.kind x (step-applies S s safe h)

-- a step that is declared to apply always does
pub applies-always : (S : List Step) (R : List ℕ) → are_safe S ≡ true → (depth n : ℕ) (x : Text)
    → applies_at S n ≡ true → is_some (applied S R depth n x) ≡ true
unfolding applied
applies-always S R safe zero n x h = refl
applies-always S R safe (suc d) n x h =
    found-applies S R (applied S R d) (applies-always S R safe d) (slice_get S n) x
    (list_all-at (is_safe S) S n safe) h

-- one step after the other: if the second one does not apply, the first one has changed nothing
pub both-gives : (g : Text → Option Text) (wanted : Option Text) (old mid new : List ℕ) (n : ℕ) (left : Option ℕ)
    → wanted ≡ Some (take n mid) → Gives (g (take n mid)) mid new left
    → (g (take n mid) ≡ None → mid ≡ old) → Gives (and_then g wanted) old new left
both-gives g wanted old mid new n None e h k = (ap (and_then g) e ∙ h.0, h.1 ∙ k h.0)
both-gives g wanted old mid new n (Some m) e h k = (h.0, ap (and_then g) e ∙ h.1)

not-none : (o : Option Text) (P : Type 0) → is_some o ≡ true → o ≡ None → P
not-none o P h e = absurd (false≢true (sym (ap is_some e) ∙ h))

pub firm-stays : (S : List Step) (R : List ℕ) → are_safe S ≡ true → (depth a b len : ℕ) (y : Text)
    (old mid : List ℕ) (left : Option ℕ) → (shortens_at S a || applies_at S b) ≡ true
    → (IsTrue (shortens_at S a) → Stays len old mid left) → applied S R depth b y ≡ None → mid ≡ old
firm-stays S R safe depth a b len y old mid left firm stays none =
    or-case (shortens_at S a) (applies_at S b) (mid ≡ old) firm (λ h. (stays h).0)
    (λ h. not-none (applied S R depth b y) (mid ≡ old) (applies-always S R safe depth b y h) none)

-- a row that was found passes what all rows pass
longer-passes : (p : Row → Bool) (row : Row) (found : Option Row) → p row ≡ true → PassesIf p found
    → PassesIf p (longer row found)
unfolding PassesIf
longer-passes p row None h k = h
longer-passes p row (Some other) h k =
    elim (nat_lt (length row.suffix) (length other.suffix))
    as (λ b. PassesIf p (cond b (Some other) (Some row))) [ true ↦ k | false ↦ h ]

longest-passes : (p : Row → Bool) (region : ℕ) (text : Text) (rows : List Row) → list_all p rows ≡ true
    → PassesIf p (longest region text rows)
unfolding PassesIf
longest-passes p region text [] h = tt
longest-passes p region text (row ∷ rows) h =
    let more = longest-passes p region text rows (and-right (p row) (list_all p rows) h) in
    elim (ends_in region text row)
    as (λ b. PassesIf p (cond b (longer row (longest region text rows)) (longest region text rows)))
    [ true ↦ longer-passes p row (longest region text rows) (and-left (p row) (list_all p rows) h) more | false ↦ more ]

pub found-passes : (p : Row → Bool) (region : ℕ) (text : Text) (rows : List Row) (row : Row)
    → list_all p rows ≡ true → longest region text rows ≡ Some row → p row ≡ true
unfolding PassesIf
found-passes p region text rows row h e = subst (PassesIf p) e (longest-passes p region text rows h)

pub Stays-wider : (m n : ℕ) (old new : List ℕ) (left : Option ℕ) → m ≤ n → Stays m old new left → Stays n old new left
Stays-wider m n old new None h k = k
Stays-wider m n old new (Some l) h k = (k.0, omega (arith, k.1))

-- an end that was taken off and is put back
pub keep-gives : (A B : Text → Option Text) (old mid new : List ℕ) (len front rest last : ℕ) (end : List ℕ)
    → len ≤ length old → front ≤ len → A (take len old) ≡ Some (take front old)
    → end ≡ take (len - front) (drop front old) → B (take front old) ≡ Some (take rest mid)
    → take last new ≡ take rest mid ++ end
    → and_then (λ f. option_map (λ t. t ++ drop (length f) (take len old)) (B f)) (A (take len old)) ≡ Some (take last new)
keep-gives A B old mid new len front rest last end fits shorter a e b t =
    let n : length (take front old) ≡ front = length-take-le front old (omega arith) in
    let sum : front + (len - front) ≡ len = omega arith in
    let cut : drop (length (take front old)) (take len old) ≡ end =
    ap (λ (k : ℕ). drop k (take len old)) n ∙ (ap (λ (k : ℕ). drop front (take k old)) (sym sum)
    ∙ (drop-take front (len - front) old ∙ sym e)) in
    ap (and_then (λ f. option_map (λ t'. t' ++ drop (length f) (take len old)) (B f))) a
    ∙ (ap (option_map (λ t'. t' ++ drop (length (take front old)) (take len old))) b
    ∙ (ap (λ (z : List ℕ). Some (take rest mid ++ z)) cut ∙ ap (λ (z : List ℕ). Some z) (sym t)))

pub get_at : {X : Type 0} (xs : List X) (i : ℕ) (x : X) → i < length xs → x ≡ get_or xs i x → slice_get xs i ≡ Some x
get_at [] i x h e = absurd (omega arith)
get_at (y ∷ xs) zero x h e = ap (λ z. Some z) (sym e)
get_at (y ∷ xs) (suc i) x h e = get_at xs i x (omega arith) e

pub get_past : {X : Type 0} (xs : List X) (i : ℕ) → length xs ≤ i → slice_get xs i ≡ None
get_past [] i h = refl
get_past (y ∷ xs) zero h = absurd (omega arith)
get_past (y ∷ xs) (suc i) h = get_past xs i (omega arith)

pub some-step : (steps : List StepHeld) (i : ℕ) (step : StepHeld) → i < length steps → step ≡ get_or steps i step
    → slice_get (steps_of steps) i ≡ Some (step_of step)
some-step steps i step h e = slice_get-map step_of steps i ∙ ap (option_map step_of) (get_at steps i step h e)

pub no-step : (steps : List StepHeld) (i : ℕ) → length steps ≤ i → slice_get (steps_of steps) i ≡ None
no-step steps i h = slice_get-map step_of steps i ∙ ap (option_map step_of) (get_past steps i h)
