use Rattle.std.proofs.lemmas.Result.{IfOk-weaker}
use Rattle.elasticlunr_search.proofs.Speaking.{speaks_as_chosen}
use Rattle.elasticlunr_search.proofs.searcher.Searcher.from_source.Goals as goal

pub returns-clause-speaks : goal.returns-clause-speaks
returns-clause-speaks g c = IfOk-weaker c.of_source.result _ _
    (λ s chosen. speaks_as_chosen _ _ s c.args.language c.in_ok-pipeline.pipeline chosen
    c.in_ok-pipeline.ensures.leaves) c.of_source.ensures.chosen

pub returns-clause-refused : goal.returns-clause-refused
returns-clause-refused g c = rw (c.in_ok-pipeline.ensures.names) at c.of_source.ensures.refused
