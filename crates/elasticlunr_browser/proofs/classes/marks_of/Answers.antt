use Rattle.std.proofs.Common.{arith, rules}
use Rattle.elasticlunr_browser.proofs.MarkLemmas.{none_yet, step, at_end}
use Rattle.elasticlunr_browser.proofs.classes.marks_of.Goals as goal

pub loop-code-init : goal.loop-code-init
loop-code-init g c = none_yet _ c.new-marks.result.items (search rules)

pub loop-code-preserved : goal.loop-code-preserved
loop-code-preserved g c =
    step (g.C.CharClass.has c.args.class.now) c.loop-code.code c.loop-code.inside c.in_ok-has.has
    c.loop-code.marks.items c.push_turn.new.marks.items
    c.loop-code.invariant c.in_ok-has.ensures c.in_ok-push_turn.ensures.same c.in_ok-push_turn.ensures.turn

pub returns : goal.returns
returns g c = at_end _ _ _ _ c.loop-code.invariant (omega arith)
