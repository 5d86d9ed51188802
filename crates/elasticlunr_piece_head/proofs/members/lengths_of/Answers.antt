use Rattle.elasticlunr_piece_head.proofs.Faults.{member_again}
use Rattle.elasticlunr_piece_head.specs.Values.{length_value}
use Rattle.elasticlunr_piece_head.proofs.Items.{all_items, next_item, wrong_item}
use Rattle.elasticlunr_piece_head.proofs.members.lengths_of.Goals as goal

pub loop-item-preserved : goal.loop-item-preserved
loop-item-preserved c = next_item length_value c.args.items.now c.loop-item.item-index c.item-item.result
    c.loop-item.lengths.items c.push.new.self.items c.in_ok-length_of.field-0
    c.loop-item-test.true c.item-item.is c.loop-item.invariant
    c.in_ok-length_of.ensures.is c.in_ok-push.ensures.items

pub returns-clause-are : goal.returns-clause-are
returns-clause-are c = all_items length_value c.args.items.now c.loop-item.item-index c.loop-item.lengths.items
    c.loop-item-test.false c.loop-item.invariant

pub returns-in_err-length_of-clause-fault : goal.returns-in_err-length_of-clause-fault
returns-in_err-length_of-clause-fault c = member_again c.args.key.now _ _
    (wrong_item length_value c.args.items.now c.loop-item.item-index c.item-item.result c.loop-item-test.true c.item-item.is)
    c.in_err-length_of.field-0.0 c.from_residual-in_err-length_of.result c.from_residual-in_err-length_of.ensures.1 c.in_err-length_of.ensures.fault
