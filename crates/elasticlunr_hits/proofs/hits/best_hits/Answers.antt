use Rattle.std.proofs.lemmas.Result.{IfOk-weaker}
use Rattle.elasticlunr_store.specs.Options.{options_of}
use Rattle.elasticlunr_ranking.specs.Order.{told_hits}
use Rattle.elasticlunr_hits.proofs.Kept.{all_come, first_come}
use Rattle.elasticlunr_hits.proofs.hits.best_hits.Goals as goal

pub returns-in-Some-clause-hits : goal.returns-in-Some-clause-hits
returns-in-Some-clause-hits g c apart of_asked = IfOk-weaker c.search_best.result _ _
    (λ hits best. first_come (λ b. (goal.PipelineFn-dyn g b).leaves b.1) c.args.searcher.now c.args.asked.now
    c.words_are_texts.ensures (options_of c.args.options.now) of_asked apart c.in-Some.limit c.in-Some.is (told_hits hits.items) best)
    c.search_best.ensures.as_chosen

pub returns-in-None-clause-hits : goal.returns-in-None-clause-hits
returns-in-None-clause-hits g c apart of_asked = IfOk-weaker c.search.result _ _
    (λ hits ranked. all_come (λ b. (goal.PipelineFn-dyn g b).leaves b.1) c.args.searcher.now c.args.asked.now
    c.words_are_texts.ensures (options_of c.args.options.now) of_asked apart c.in-None.is (told_hits hits.items) ranked)
    c.search.ensures.as_chosen
