use Rattle.serde_json.specs.View.{view}
use Rattle.elasticlunr_piece_head.proofs.Faults.{unfit_again}
use Rattle.elasticlunr_piece_head.proofs.head.PieceHead.read.Goals as goal

pub returns-in_err-check_numbers-clause-fault : goal.returns-in_err-check_numbers-clause-fault
returns-in_err-check_numbers-clause-fault c = unfit_again c.args.text.now (view c.in-Ok.value) c.in_ok-head.head
    c.in-Ok.ensures.ok c.in_ok-head.ensures.says c.in_err-check_numbers.field-0.0
    c.from_residual-in_err-check_numbers.result c.from_residual-in_err-check_numbers.ensures.1
    c.in_err-check_numbers.ensures.fault
