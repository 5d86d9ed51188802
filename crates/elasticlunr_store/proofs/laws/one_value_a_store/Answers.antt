use Rattle.std.proofs.Common.{sym, ◌∙◌}
use Rattle.elasticlunr_store.proofs.laws.one_value_a_store.Goals as goal

pub returns : goal.returns
returns c one v w first second = first ∙ sym second
