use Rattle.elasticlunr_piece_head.proofs.Faults.{member_again}
use Rattle.std.proofs.Common.{map, ap, ◌∙◌, ◌∷◌, []}
use Rattle.std.proofs.lemmas.List.{map-append}
use Rattle.elasticlunr_piece_head.specs.Values.{array_of, length_value}
use Rattle.elasticlunr_piece_head.proofs.Items.{all_items, next_item, wrong_item}
use Rattle.elasticlunr_piece_head.proofs.members.columns_of.Goals as goal

pub loop-item-preserved : goal.loop-item-preserved
loop-item-preserved c = next_item (array_of length_value) c.args.items.now c.loop-item.item-index c.item-item.result
    (map (λ column. column.items) c.loop-item.lengths.items) (map (λ column. column.items) c.push.new.self.items)
    c.in_ok-column_of.field-0.items
    c.loop-item-test.true c.item-item.is c.loop-item.invariant c.in_ok-column_of.ensures.are
    (ap (map (λ column. column.items)) c.in_ok-push.ensures.items
    ∙ map-append (λ column. column.items) c.loop-item.lengths.items (c.in_ok-column_of.field-0 ∷ []))

pub returns-clause-are : goal.returns-clause-are
returns-clause-are c = all_items (array_of length_value) c.args.items.now c.loop-item.item-index
    (map (λ column. column.items) c.loop-item.lengths.items) c.loop-item-test.false c.loop-item.invariant

pub returns-in_err-column_of-clause-fault : goal.returns-in_err-column_of-clause-fault
returns-in_err-column_of-clause-fault c = member_again c.args.key.now _ _
    (wrong_item (array_of length_value) c.args.items.now c.loop-item.item-index c.item-item.result c.loop-item-test.true c.item-item.is)
    c.in_err-column_of.field-0.0 c.from_residual-in_err-column_of.result c.from_residual-in_err-column_of.ensures.1 c.in_err-column_of.ensures.fault
