use Rattle.std.proofs.Common.{refl}
use Rattle.serde_json.specs.View.{view}
use Rattle.elasticlunr_search.proofs.Naming.{names_one, none_other}
use Rattle.elasticlunr_search.proofs.parts.names_other.Goals as goal

pub returns-in-Some : goal.returns-in-Some
returns-in-Some c = names_one c.args.language.now c.in-Some.name.now (view c.args.value.now) _ c.in-Some.ensures.named
    c.ne.ensures

pub returns-in-None : goal.returns-in-None
returns-in-None c = none_other c.args.language.now (view c.args.value.now) (c.in-None.ensures.none refl)
