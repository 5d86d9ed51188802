use Rattle.std.proofs.Common.{◌∙◌}
use Rattle.elasticlunr_publish.proofs.Listed.{contained}
use Rattle.elasticlunr_publish.proofs.heads.is_listed.Goals as goal

pub returns : goal.returns
returns c = c.contains.ensures.value ∙ contained c.args.name.now c.args.names.now
