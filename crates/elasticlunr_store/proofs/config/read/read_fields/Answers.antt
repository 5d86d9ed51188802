use Rattle.std.proofs.Common.{[], ◌++◌, ◌∷◌, refl, sym, ap, subst, ◌∙◌, append_assoc, string_cmp, string_bytes, None}
use Rattle.std.specs.FinMap.{get, insert, get-empty}
use Rattle.std.specs.List.Sorted.{IsStrictlySortedBy}
use Rattle.std.specs.Map.{keys_of}
use Rattle.std.proofs.lemmas.Map.Text.{btree_map_updates_text}
use Rattle.serde_json.specs.View.{view}
use Rattle.elasticlunr_error.specs.Text.{text_cmp}
use Rattle.elasticlunr_store.specs.Options.{ReadsAt, field_map}
use Rattle.elasticlunr_json.proofs.Seen.{seen_inserted}
use Rattle.elasticlunr_json.proofs.ReadingMaps.{object_of}
use Rattle.elasticlunr_json.proofs.Refusals.{refused_again}
use Rattle.elasticlunr_store.proofs.ReadingOptions.{read_more, foreign_field}
use Rattle.elasticlunr_store.proofs.config.read.read_fields.Goals as goal

pub loop-name-init : goal.loop-name-init
loop-name-init c = record {
  done = [];
  split = refl;
  each = λ name. subst (λ o. ReadsAt None o)
      (sym (ap (λ es. get (field_map es) name) c.new-fields.ensures.empty ∙ get-empty text_cmp name)) tt;
}

pub returns-in_err-field-clause-err : goal.returns-in_err-field-clause-err
returns-in_err-field-clause-err c =
    let held = c.loop-name.invariant in
    let all = c.into_iter-name-iterator.ensures.into_iter_gives ∙ c.iter-name-items.ensures.rest in
    let more = ap (λ es. held.done ++ es) (sym c.in-Some-2.ensures.steps) ∙ held.split ∙ all in
    refused_again _ _ (foreign_field (view c.args.value.now) c.in-Some.members.now.entries held.done
    (c.in-Some-2.name.now, c.in-Some-2.options.now) c.next.new.self (object_of _ _ c.in-Some.ensures) more
    c.iter-name-items.ensures.ordered)
    c.in_err-field.field-0.0 c.from_residual.result c.from_residual.ensures.1 c.in_err-field.ensures.err

pub loop-name-preserved : goal.loop-name-preserved
loop-name-preserved c =
    let held = c.loop-name.invariant in
    let all = c.into_iter-name-iterator.ensures.into_iter_gives ∙ c.iter-name-items.ensures.rest in
    let more = ap (λ es. held.done ++ es) (sym c.in-Some-2.ensures.steps) ∙ held.split in
    let sorted = subst (λ es. IsStrictlySortedBy string_cmp (keys_of es)) (sym (more ∙ all))
    c.iter-name-items.ensures.ordered in
    let name = string_bytes c.in_ok-clone.field-0 in
    let put = seen_inserted (λ field. field) c.loop-name.fields c.insert.new.self name c.in_ok-field.field
    (btree_map_updates_text name c.loop-name.fields c.insert.new.self _ c.in_ok-insert.ensures.updates) in
    let is = put ∙ (λ i. insert (field_map c.loop-name.fields.entries) (c.in_ok-clone.ensures.cases i)
    c.in_ok-field.field) in
    record {
      done = held.done ++ (c.in-Some-2.name.now, c.in-Some-2.options.now) ∷ [];
      split = append_assoc held.done _ c.next.new.self ∙ more;
      each = read_more (field_map c.loop-name.fields.entries) (field_map c.insert.new.self.entries) held.done
          (c.in-Some-2.name.now, c.in-Some-2.options.now) c.next.new.self c.in_ok-field.field sorted held.each is
          c.in_ok-field.ensures.ok;
    }
