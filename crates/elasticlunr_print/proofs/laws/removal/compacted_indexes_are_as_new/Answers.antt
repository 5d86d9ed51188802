use Rattle.elasticlunr_print.proofs.Fresh.{fresh_holds, fresh_value}
use Rattle.elasticlunr_print.proofs.laws.removal.compacted_indexes_are_as_new.Goals as goal

pub returns : goal.returns
returns c = record {
  held = λ plan commands fresh tables contents ends is. fresh_holds commands fresh plan tables contents ends is;
  value = λ plan commands fresh value ends is. fresh_value commands fresh plan value ends is;
}
