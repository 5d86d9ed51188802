use Rattle.elasticlunr_search.proofs.searcher.Searcher.of_source.Goals as goal

pub returns-clause-parts : goal.returns-clause-parts
returns-clause-parts g c v is = c.in_ok-printed.ensures.parts v is
