use Rattle.elasticlunr_search.proofs.Stages.{same_names}
use Rattle.elasticlunr_search.proofs.parts.are_same.Goals as goal

pub returns : goal.returns
returns c = same_names c.args.names.now c.args.others.now _ c.eq.ensures
