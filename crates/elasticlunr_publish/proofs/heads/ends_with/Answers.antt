use Rattle.std.proofs.Common.{sym, ◌∙◌}
use Rattle.elasticlunr_publish.proofs.Listed.{last_is}
use Rattle.elasticlunr_publish.proofs.heads.ends_with.Goals as goal

pub returns-then-count-gt0 : goal.returns-then-count-gt0
returns-then-count-gt0 c = c.eq.ensures ∙ sym (last_is c.args.name.now c.args.names.now _ c.if-count-gt0.true)
