use Rattle.std.proofs.Common.{◌≡◌, Err, subst, ◌∙◌, ap}
use Rattle.elasticlunr.specs.Fields.{borrowed}
use Rattle.elasticlunr_search.specs.Standing.{HasFieldsOf, LacksFieldOf}
use Rattle.elasticlunr_search.specs.declared.error.SearchError.TheVariants.{NoSuchField}
use Rattle.elasticlunr_search.proofs.searcher.Searcher.check_named.Goals as goal

pub returns-in-Ok-clause-has_fields : goal.returns-in-Ok-clause-has_fields
returns-in-Ok-clause-has_fields g c =
    subst (HasFieldsOf c.args.self.now) (ap borrowed c.deref.ensures.value ∙ c.in_ok-named.ensures)
    c.in-Ok.ensures.has_fields

pub returns-clause-no_field : goal.returns-clause-no_field
returns-clause-no_field g c none =
    let is : c.in-Err.error ≡ NoSuchField = cc (none) in
    subst (LacksFieldOf c.args.self.now) (ap borrowed c.deref.ensures.value ∙ c.in_ok-named.ensures)
    (c.in-Err.ensures.no_field (ap Err is))
