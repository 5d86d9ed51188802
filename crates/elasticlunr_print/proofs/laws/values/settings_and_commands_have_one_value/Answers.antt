use Rattle.elasticlunr_print.proofs.Unique.{one_value}
use Rattle.elasticlunr_print.proofs.laws.values.settings_and_commands_have_one_value.Goals as goal

pub returns : goal.returns
returns c = one_value c.one_value_a_table.ensures
