use Rattle.elasticlunr_piece_head.proofs.Splitting.{split_found, split_missing}
use Rattle.elasticlunr_piece_head.proofs.choice.count_up_to.Goals as goal

pub returns-in-Ok : goal.returns-in-Ok
returns-in-Ok c sorted = split_found c.args.text.now c.args.texts.now sorted c.in-Ok.place c.in-Ok.ensures.bound
    c.in-Ok.ensures.position

pub returns-in-Err : goal.returns-in-Err
returns-in-Err c sorted = split_missing c.args.text.now c.args.texts.now sorted c.in-Err.place c.in-Err.ensures.bound
    c.in-Err.ensures.position
