-- The steps of the code as the definitions see them.
use Rattle.std.specs.Prelude.{ℕ, Bool, IsTrue, List, map, Option}
use Rattle.std.specs.Borrow.{Bor}
use Rattle.elasticlunr_error.specs.Text.{Text}
use Rattle.elasticlunr_stems.specs.Stems.{applied}
use Rattle.elasticlunr_stems.specs.Safe.{are_safe, shortens_at, applies_at}
use Rattle.elasticlunr_stems.specs.Tables.{Class as ClassOf, Kind as KindOf}
use Rattle.elasticlunr_stems.specs.Tables.{Step as StepOf, Mark as MarkOf}
use Rattle.elasticlunr_stems.specs.Tables.{add, within, one, twin, run, cut, both, either, fails}
use Rattle.elasticlunr_stems.specs.Tables.{keep, sweep}
use Rattle.elasticlunr_stems.specs.declared.class.Class.{Class}
use Rattle.elasticlunr_stems.specs.RowViews.{rows_of}
use Rattle.elasticlunr_stems.specs.declared.step.Kind.{Kind}
use Rattle.elasticlunr_stems.specs.declared.step.Kind.TheVariants.{Add, Within, One, Twin, Run, Cut}
use Rattle.elasticlunr_stems.specs.declared.step.Kind.TheVariants.{Both, Either, Fails, Keep, Sweep}
use Rattle.elasticlunr_stems.specs.declared.step.Step.{Step}
use Rattle.elasticlunr_stems.specs.declared.step.Mark.{Mark}
use Rattle.elasticlunr_stems.specs.declared.interpreter.Interpreter.{Interpreter}

abbrev pub class_of : Class → ClassOf
class_of class = record { all_but = class.all_but; listed = class.listed.items }

abbrev pub kind_of : Kind → KindOf
kind_of (Add end) = add end.items
kind_of (Within k) = within k
kind_of (One class) = one (class_of class)
kind_of (Twin class) = twin (class_of class)
kind_of (Run class) = run (class_of class)
kind_of (Cut k suffixes) = cut k (rows_of suffixes.rows.items)
kind_of (Both a b) = both a b
kind_of (Either a b) = either a b
kind_of (Fails a) = fails a
kind_of (Keep a b) = keep a b
kind_of (Sweep class a) = sweep (class_of class) a

abbrev pub step_of : Step → StepOf
step_of step = record {
  only_shortens = step.only_shortens;
  always_applies = step.always_applies;
  kind = kind_of step.kind;
}

abbrev pub steps_of : List Step → List StepOf
steps_of steps = map step_of steps

abbrev pub mark_of : Mark → MarkOf
mark_of mark = record { step = mark.step; least = mark.least }

-- what the step with the number makes of a text in a run
abbrev pub applied_in : Interpreter → ℕ → ℕ → Text → Option Text
applied_in runner depth number text =
    applied (steps_of runner.steps.now) runner.regions.now depth number text

-- the declarations of the steps of a run
abbrev pub shortens_in : Interpreter → ℕ → Bool
shortens_in runner number = shortens_at (steps_of runner.steps.now) number

abbrev pub applies_in : Interpreter → ℕ → Bool
applies_in runner number = applies_at (steps_of runner.steps.now) number

abbrev pub IsSafeRun : Interpreter → Type 0
IsSafeRun runner = IsTrue (are_safe (steps_of runner.steps.now))

-- words as texts
abbrev pub texts : List (Bor Text) → List Text
texts words = map (λ word. word.now) words
