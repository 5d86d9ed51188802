use Rattle.elasticlunr_print.proofs.Fresh.{removed_holds}
use Rattle.elasticlunr_print.proofs.laws.removal.removing_the_absent_changes_nothing.Goals as goal

pub returns : goal.returns
returns c = λ plan commands r tables contents absent. removed_holds commands r plan tables contents absent
