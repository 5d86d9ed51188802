use Rattle.elasticlunr_print.proofs.Plain.{no_float}
use Rattle.elasticlunr_print.proofs.PlainValues.{value_plain}
use Rattle.elasticlunr_print.proofs.laws.values.values_have_no_float.Goals as goal

pub returns : goal.returns
returns c plan tables contents v is = no_float v (value_plain plan tables contents v is)
