use Rattle.std.proofs.Common.{refl}
use Rattle.serde_json.specs.View.{view}
use Rattle.elasticlunr_json.specs.Maps.{count}
use Rattle.elasticlunr_json.proofs.ReadingMaps.{count_of, no_count}
use Rattle.elasticlunr_piece_head.proofs.Items.{all_items, next_item, wrong_item}
use Rattle.elasticlunr_piece_head.proofs.members.numbers_of.Goals as goal

pub loop-item-preserved : goal.loop-item-preserved
loop-item-preserved c = next_item count c.args.items.now c.loop-item.item-index c.item-item.result
    c.loop-item.numbers.items c.push.new.self.items c.in-Some.number
    c.loop-item-test.true c.item-item.is c.loop-item.invariant
    (count_of (view c.item-item.result) c.in-Some.number c.in-Some.ensures) c.in_ok-push.ensures.items

pub returns-clause-are : goal.returns-clause-are
returns-clause-are c = all_items count c.args.items.now c.loop-item.item-index c.loop-item.numbers.items
    c.loop-item-test.false c.loop-item.invariant

pub returns-in_default-clause-fault : goal.returns-in_default-clause-fault
returns-in_default-clause-fault c = (
  refl,
  wrong_item count c.args.items.now c.loop-item.item-index c.item-item.result c.loop-item-test.true c.item-item.is
      (no_count _ c.in_default.ensures),
)
