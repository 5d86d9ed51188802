use Rattle.std.proofs.Common.{refl, string_bytes, sym, ap, ◌∙◌}
use Rattle.serde_json.specs.Data.{string}
use Rattle.serde_json.specs.View.{view}
use Rattle.elasticlunr_error.specs.Text.{bytes_of}
use Rattle.elasticlunr_json.proofs.ReadingMaps.{no_string, string_of}
use Rattle.elasticlunr_piece_head.proofs.Items.{all_items, bytes_push, next_item, wrong_item}
use Rattle.elasticlunr_piece_head.proofs.members.texts_of.Goals as goal

pub loop-item-preserved : goal.loop-item-preserved
loop-item-preserved c = next_item string c.args.items.now c.loop-item.item-index c.item-item.result
    (bytes_of c.loop-item.texts.items) (bytes_of c.push.new.self.items) (string_bytes c.in_ok-from_str.field-0)
    c.loop-item-test.true c.item-item.is c.loop-item.invariant
    (string_of (view c.item-item.result) c.in-Some.text.now c.in-Some.ensures
    ∙ ap string (sym c.in_ok-from_str.ensures.ok))
    (bytes_push c.loop-item.texts.items c.push.new.self.items c.in_ok-from_str.field-0 c.in_ok-push.ensures.items)

pub returns-clause-are : goal.returns-clause-are
returns-clause-are c = all_items string c.args.items.now c.loop-item.item-index (bytes_of c.loop-item.texts.items)
    c.loop-item-test.false c.loop-item.invariant

pub returns-in_default-clause-fault : goal.returns-in_default-clause-fault
returns-in_default-clause-fault c = (
  refl,
  wrong_item string c.args.items.now c.loop-item.item-index c.item-item.result c.loop-item-test.true c.item-item.is
      (no_string _ c.in_default.ensures),
)
