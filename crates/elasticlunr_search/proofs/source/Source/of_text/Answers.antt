use Rattle.std.proofs.Common.{refl}
use Rattle.serde_json.specs.Read.{max_depth}
use Rattle.serde_json.specs.View.{view}
use Rattle.elasticlunr_search.proofs.source.Source.of_text.Goals as goal

pub returns-in-Some-clause-ok : goal.returns-in-Some-clause-ok
returns-in-Some-clause-ok c = rw c.in-Some.is at c.in_ok-index.ensures

pub returns-clause-ok : goal.returns-clause-ok
returns-clause-ok c = (view c.in_ok-value.value, (max_depth, c.in_ok-value.ensures.ok), refl)
