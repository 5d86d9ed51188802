use Rattle.std.proofs.lemmas.Result.{IfOk-weaker}
use Rattle.elasticlunr_search.proofs.Speaking.{speaks_as_chosen}
use Rattle.elasticlunr_search.proofs.Made.{IfOk-both}
use Rattle.elasticlunr_search.proofs.searcher.Searcher.read.Goals as goal

pub returns-clause-stands : goal.returns-clause-stands
returns-clause-stands g c = IfOk-both c.with_pipeline.result _ _ _ (λ s stands chosen plan commands print. record {
  speaks = speaks_as_chosen _ _ s c.args.language c.in_ok-pipeline.pipeline chosen c.in_ok-pipeline.ensures.leaves;
  read = stands plan commands print;
}) c.with_pipeline.ensures.stands c.with_pipeline.ensures.chosen

pub returns-clause-speaks : goal.returns-clause-speaks
returns-clause-speaks g c = IfOk-weaker c.with_pipeline.result _ _
    (λ s chosen. speaks_as_chosen _ _ s c.args.language c.in_ok-pipeline.pipeline chosen
    c.in_ok-pipeline.ensures.leaves) c.with_pipeline.ensures.chosen

pub returns-clause-refused : goal.returns-clause-refused
returns-clause-refused g c = rw (c.in_ok-pipeline.ensures.names) at c.with_pipeline.ensures.refused

pub returns-clause-accepted : goal.returns-clause-accepted
returns-clause-accepted g c = rw (c.in_ok-pipeline.ensures.names) at c.with_pipeline.ensures.accepted

pub returns-clause-other : goal.returns-clause-other
returns-clause-other g c = rw (c.in_ok-pipeline.ensures.names) at c.with_pipeline.ensures.other
