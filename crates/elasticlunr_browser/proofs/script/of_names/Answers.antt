use Rattle.std.proofs.Common.{refl}
use Rattle.elasticlunr_browser.proofs.NameLemmas.{unknown_at, one_named}
use Rattle.elasticlunr_browser.proofs.script.of_names.Goals as goal

pub returns-in_default-clause-none : goal.returns-in_default-clause-none
returns-in_default-clause-none c = λ _. unknown_at c.args.names.now c.loop-name.name-index _ c.loop-name-test.true
    (c.in_default.ensures.none refl)

pub loop-name-preserved : goal.loop-name-preserved
loop-name-preserved c =
    one_named c.args.names.now c.loop-name.name-index _ c.loop-name.chosen.items c.push.new.self.items
    c.in-Some.language c.loop-name-test.true
    c.loop-name.invariant c.in-Some.ensures.found c.in_ok-push.ensures.items
