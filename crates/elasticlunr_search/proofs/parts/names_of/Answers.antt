use Rattle.std.proofs.Common.{inr, refl, arith}
use Rattle.elasticlunr_text.specs.Text.{bytes_of}
use Rattle.elasticlunr_json.proofs.ReadingMaps.{no_string}
use Rattle.elasticlunr_search.proofs.Arrays.{all_names, not_all_names, next_name}
use Rattle.elasticlunr_search.proofs.parts.names_of.Goals as goal

pub returns-in_default-as_str-clause-err : goal.returns-in_default-as_str-clause-err
returns-in_default-as_str-clause-err c = inr (
  refl,
  not_all_names _ c.in-Some.items.now.items c.deref-item-items.result.now c.loop-item.item-index
      c.item-item.result c.in-Some.ensures c.deref-item-items.ensures.value c.loop-item-test.true c.item-item.is
      (no_string _ c.in_default-as_str.ensures),
)

pub loop-item-preserved : goal.loop-item-preserved
loop-item-preserved c = next_name c.deref-item-items.result.now c.loop-item.item-index c.item-item.result
    c.loop-item.names.items c.push.new.self.items c.in_ok-from_str.field-0 c.in-Some-as_str.name.now
    (omega arith) c.item-item.is c.loop-item.invariant c.in-Some-as_str.ensures c.in_ok-from_str.ensures.ok
    c.in_ok-push.ensures.items

pub returns-clause-ok : goal.returns-clause-ok
returns-clause-ok c = all_names _ c.in-Some.items.now.items c.deref-item-items.result.now c.loop-item.item-index
    (bytes_of c.loop-item.names.items) c.in-Some.ensures c.deref-item-items.ensures.value c.loop-item-test.false
    c.loop-item.invariant
