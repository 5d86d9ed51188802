use Rattle.std.proofs.Common.{map, ap}
use Rattle.serde_json.specs.View.{view}
use Rattle.elasticlunr_input.proofs.HeadLemmas.{first_item, some_problem}
use Rattle.elasticlunr_input.proofs.lines.check_first.Goals as goal

pub returns-in_ok-message-in-Some-2-clause-err : goal.returns-in_ok-message-in-Some-2-clause-err
returns-in_ok-message-in-Some-2-clause-err c =
    let all = first_item c.args.values.now c.in-Some.value.now c.in-Some.ensures.value in (
      view c.in-Some.value.now,
      map view all.0,
      c.in-Some-2.problem,
      ap (map view) all.1,
      some_problem c.in_ok-problem_of.field-0 c.in-Some-2.problem _ c.in-Some-2.is c.in_ok-problem_of.ensures.some,
      c.in_ok-message-in-Some-2.ensures,
    )
