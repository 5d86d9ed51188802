use Rattle.std.proofs.Common.{map, subst, ◌∙◌, ap}
use Rattle.elasticlunr_text.specs.Text.{texts_of}
use Rattle.elasticlunr_store.specs.Options.{options_of}
use Rattle.elasticlunr_ranking.specs.Fields.{field_of}
use Rattle.elasticlunr_ranking.specs.Order.{AreRanked, told_hits}
use Rattle.elasticlunr_search.proofs.Ranking.{hits_as_chosen, hits_of}
use Rattle.elasticlunr_search.proofs.searcher.Searcher.search.Goals as goal

pub returns-clause-ranked : goal.returns-clause-ranked
returns-clause-ranked g c =
    let found = told_hits c.in_ok-hits.hits.items in
    let tokens = texts_of c.in_ok-tokens.tokens.items in
    hits_of AreRanked g.L.Language.tokens_of _ _ c.args.self.now c.args.query.now
    (options_of c.args.options.now) tokens found
    (subst (λ fields. AreRanked fields tokens found)
    (ap (map field_of) c.deref.ensures.value ∙ c.in_ok-fields.ensures)
    (subst (λ ts. AreRanked (map field_of c.deref.result.now) (texts_of ts) found) c.deref-2.ensures.value
    c.in_ok-hits.ensures)) c.in_ok-tokens.ensures.read

pub returns-clause-as_chosen : goal.returns-clause-as_chosen
returns-clause-as_chosen g c =
    let found = told_hits c.in_ok-hits.hits.items in
    let tokens = texts_of c.in_ok-tokens.tokens.items in
    hits_as_chosen AreRanked g.L.Language.tokens_of g.L.Language.leaves_of
    (λ b. (goal.PipelineFn-dyn g b).leaves b.1) c.args.self.now c.args.query.now
    (options_of c.args.options.now) tokens found
    (subst (λ fields. AreRanked fields tokens found)
    (ap (map field_of) c.deref.ensures.value ∙ c.in_ok-fields.ensures)
    (subst (λ ts. AreRanked (map field_of c.deref.result.now) (texts_of ts) found) c.deref-2.ensures.value
    c.in_ok-hits.ensures)) c.in_ok-tokens.ensures.run
