use Rattle.std.proofs.Common.{sym, ◌∙◌, arith}
use Rattle.elasticlunr_stems.specs.Tables.{is_in}
use Rattle.elasticlunr_stems.specs.Views.{class_of}
use Rattle.elasticlunr_stems.proofs.EndLemmas.{run_off-more, front-shorter}
use Rattle.std.proofs.Common.{rules}
use Rattle.std.proofs.lemmas.Grind.{common_steps}
use Rattle.elasticlunr_stems.proofs.ends.run_off.Goals as goal

pub loop-last-preserved : goal.loop-last-preserved
loop-last-preserved c =
    let rest = c.loop-last.rest.now in
    let front = c.in-Some.front.now in
    let e = c.in-Some.ensures.cases.0 in
    record {
      same = sym (run_off-more (is_in (class_of c.args.class.now)) rest front _ e (sym c.contains.ensures ∙ c.if-not-contains.false)) ∙ c.loop-last.invariant.same;
      front = front-shorter c.args.text.now rest front _ c.loop-last.invariant.front e;
      shorter = omega (arith, c.in-Some.ensures.cases.1);
    }

pub loop-last-init : goal.loop-last-init
loop-last-init c = grind (arith, common_steps)

pub returns-then-not-contains-clause-left : goal.returns-then-not-contains-clause-left
returns-then-not-contains-clause-left c = grind (arith, common_steps)

pub returns-then-not-contains-clause-shorter : goal.returns-then-not-contains-clause-shorter
returns-then-not-contains-clause-shorter c = search rules

pub returns-in_default-clause-left : goal.returns-in_default-clause-left
returns-in_default-clause-left c = search rules

pub returns-in_default-clause-shorter : goal.returns-in_default-clause-shorter
returns-in_default-clause-shorter c = search rules
