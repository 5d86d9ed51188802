use Rattle.elasticlunr_print.proofs.Unique.{one_printed_alike}
use Rattle.elasticlunr_print.proofs.laws.values.equal_parts_have_equal_values.Goals as goal

pub returns : goal.returns
returns c = one_printed_alike c.one_value_a_table.ensures
