use Rattle.std.proofs.Common.{rules, arith, sym, ◌∙◌, ap, take, subst, ◌≡◌, ◌-◌, ◌++◌, drop, List, ℕ, Some, Option, ◌≤◌, true}
use Rattle.std.proofs.lemmas.List.{length-take}
use Rattle.elasticlunr_stems.specs.Safe.{is_safe, shortens}
use Rattle.elasticlunr_stems.specs.Runs.{Gives}
use Rattle.elasticlunr_stems.specs.Views.{applied_in, steps_of, step_of, shortens_in}
use Rattle.elasticlunr_stems.proofs.RunLemmas.{IfOk-map, both-gives, firm-stays, keep-gives, found-passes, Stays-wider}
use Rattle.elasticlunr_stems.proofs.RunLemmas.{applied-some, applied-none, all-found}
use Rattle.elasticlunr_stems.proofs.RunLemmas.{step-is-safe, step-shortens, some-step, no-step}
use Rattle.std.proofs.lemmas.Grind.{common_steps}
use Rattle.elasticlunr_stems.proofs.interpreter.Interpreter.+steps.Goals as goal

pub apply-carry_out-requires : goal.apply-carry_out-requires
apply-carry_out-requires t c =
    let S = steps_of c.args.self.now.steps.now in
    let at = some-step c.args.self.now.steps.now c.args.number c.in-Some.step.now (omega (arith, c.in-Some.ensures.lookup.3.0))
    (c.in-Some.ensures.lookup.1) in (
      search rules,
      (
        c.requires.safe,
        (
          c.requires.within,
          step-is-safe S (step_of c.in-Some.step.now)
              (all-found (is_safe S) S c.args.number (step_of c.in-Some.step.now) c.requires.safe at),
        ),
      ),
    )

pub apply-returns-in-Some-clause-gives : goal.apply-returns-in-Some-clause-gives
apply-returns-in-Some-clause-gives t c =
    let S = steps_of c.args.self.now.steps.now in
    let at = some-step c.args.self.now.steps.now c.args.number c.in-Some.step.now (omega (arith, c.in-Some.ensures.lookup.3.0))
    (c.in-Some.ensures.lookup.1) in
    let old = c.args.buffer.now.items in
    let e = applied-some S c.args.self.now.regions.now c.args.depth c.args.number (step_of c.in-Some.step.now)
    (take c.args.len old) c.if-depth-eq0.false at in
    IfOk-map _ _ c.carry_out.result
    (λ left h. subst (λ (w : Option (List ℕ)). Gives w old c.carry_out.new.buffer.items left) (sym e) h)
    c.carry_out.ensures.gives

pub apply-returns-in-Some-clause-stays : goal.apply-returns-in-Some-clause-stays
apply-returns-in-Some-clause-stays t c =
    let S = steps_of c.args.self.now.steps.now in
    let at = some-step c.args.self.now.steps.now c.args.number c.in-Some.step.now (omega (arith, c.in-Some.ensures.lookup.3.0))
    (c.in-Some.ensures.lookup.1) in
    IfOk-map _ _ c.carry_out.result
    (λ left h short. h (step-shortens S (step_of c.in-Some.step.now)
    (all-found (is_safe S) S c.args.number (step_of c.in-Some.step.now) c.requires.safe at)
    (sym (ap shortens at) ∙ short)))
    c.carry_out.ensures.stays

pub apply-returns-in-None-clause-gives : goal.apply-returns-in-None-clause-gives
apply-returns-in-None-clause-gives t c = (
  c.requires.within,
  applied-none (steps_of c.args.self.now.steps.now) c.args.self.now.regions.now c.args.depth c.args.number _
      (no-step c.args.self.now.steps.now c.args.number c.in-None.ensures.lookup.3),
)

pub both-returns-in-Some-clause-gives : goal.both-returns-in-Some-clause-gives
both-returns-in-Some-clause-gives t c =
    let S = steps_of c.args.self.now.steps.now in
    let R = c.args.self.now.regions.now in
    let old = c.args.buffer.now.items in
    let mid = c.apply.new.buffer.items in
    IfOk-map _ _ c.apply-in-Some.result
    (λ left h. both-gives (applied_in c.args.self.now c.args.depth c.args.steps.1) _ old mid
    c.apply-in-Some.new.buffer.items c.in-Some.rest left (rw c.in-Some.is at c.in_ok-left.ensures.gives).1 h
    (firm-stays S R c.requires.safe c.args.depth c.args.steps.0 c.args.steps.1 c.args.len (take c.in-Some.rest mid) old
    mid c.in_ok-left.left c.requires.firm c.in_ok-left.ensures.stays))
    c.apply-in-Some.ensures.gives

pub cut-returns-in-Some-clause-stays : goal.cut-returns-in-Some-clause-stays
cut-returns-in-Some-clause-stays t c =
    let self = c.args.self.now in
    let row = c.in-Some.ensures in
    let shorter : c.in-Some.rest ≤ c.args.len =
    omega (arith, row.4, length-take c.args.len c.as_slice.result.now) in
    IfOk-map _ _ c.apply.result
    (λ left h all. Stays-wider c.in-Some.rest c.args.len c.args.buffer.now.items c.apply.new.buffer.items left shorter
    (h (subst (λ (n : ℕ). shortens_in self n ≡ true) row.2
    (found-passes (λ r. shortens_in self r.step) c.args.cut.1 _ _ row.0 all row.1))))
    c.apply.ensures.stays

pub keep-returns : goal.keep-returns
keep-returns t c =
    let old = c.args.buffer.now.items in
    let mid = c.apply.new.buffer.items in
    let stays = c.in_ok-left.ensures.stays c.requires.only_tried in
    let shorter : c.in-Some.front ≤ c.args.len = (rw c.in-Some.is at stays).1 in
    let taken = (rw c.in-Some.is at c.in_ok-left.ensures.gives).1 in
    let end = c.in_ok-end.ensures.items_if_clones_equal (λ x y e. e) in
    let same : c.as_slice.result.now ≡ old = c.as_slice.ensures.value ∙ stays.0 in
    let rest = (rw c.in-Some-left.is at c.in_ok-left-2.ensures.gives).1 in (
      c.in_ok-add.ensures.within,
      keep-gives (applied_in c.args.self.now c.args.depth c.args.steps.0)
          (applied_in c.args.self.now c.args.depth c.args.steps.1) old c.apply-2.new.buffer.items c.add.new.buffer.items
          c.args.len c.in-Some.front c.in-Some-left.rest c.in_ok-add.field-0 c.in_ok-end.end.items c.requires.within shorter
          (taken ∙ ap (λ (b : List ℕ). Some (take c.in-Some.front b)) stays.0)
          (end ∙ ap (λ (b : List ℕ). take (c.args.len - c.in-Some.front) (drop c.in-Some.front b)) same)
          (ap (λ (b : List ℕ). applied_in c.args.self.now c.args.depth c.args.steps.1 (take c.in-Some.front b)) (sym stays.0)
          ∙ rest)
          (c.in_ok-add.ensures.text ∙ ap (λ (e : List ℕ). take c.in-Some-left.rest c.apply-2.new.buffer.items ++ e)
          c.as_slice-2.ensures.value),
    )

pub sweep-loop-c-init : goal.sweep-loop-c-init
sweep-loop-c-init t c = search rules

pub sweep-loop-c-preserved : goal.sweep-loop-c-preserved
sweep-loop-c-preserved t c = grind (arith, common_steps)
