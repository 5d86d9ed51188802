use Rattle.std.proofs.Common.{◌≡◌, [], ◌∷◌, ◌++◌, ◌∙◌, ap, sym, subst, string_bytes, arith, IfSome, is_some, take, get_or}
use Rattle.std.proofs.lemmas.Map.Text.{btree_map_updates_text}
use Rattle.std.specs.Borrow.{Bor}
use Rattle.std.specs.FinMap.{get, get-empty}
use Rattle.elasticlunr_text.specs.Text.{Bytes, text_cmp}
use Rattle.elasticlunr_json.proofs.Seen.{seen_inserted}
use Rattle.elasticlunr_store.specs.Options.{field_map}
use Rattle.elasticlunr_store.specs.declared.config.SearchOptionsField.{SearchOptionsField}
use Rattle.elasticlunr.specs.Fields.{borrowed, has_name}
use Rattle.elasticlunr_search.proofs.Joining.{next_field}
use Rattle.elasticlunr_hits.specs.Asked.{HasBoost, last_boost}
use Rattle.elasticlunr_hits.proofs.Names.{one_more}
use Rattle.elasticlunr_hits.proofs.options.field_options.Goals as goal

pub loop-name-init : goal.loop-name-init
loop-name-init c q =
    let none = ap (λ es. get (field_map es) q) c.new-fields.ensures.empty ∙ get-empty text_cmp q in (
      ap is_some none,
      subst (λ o. IfSome o (HasBoost (last_boost c.args.boosts.now q))) (sym none) tt,
    )

pub loop-name-preserved : goal.loop-name-preserved
loop-name-preserved c q =
    let names = c.args.names.now in
    let boosts = c.args.boosts.now in
    let i = c.loop-name.name-index in
    let other : Bor Bytes = record { ref_ptr = (0, 0); now = [] } in
    let name = (get_or names i other).now in
    let key = string_bytes c.in_ok-key.key in
    let old = c.loop-name.fields in
    let new = c.insert.new.self in
    let field = c.boosted_field.result in
    let is : key ≡ name = c.in_ok-key.ensures.ok in
    let put = seen_inserted (λ (f : SearchOptionsField). f) old new key field
    (btree_map_updates_text key old new _ c.in_ok-insert.ensures.updates) in
    let both = one_more (field_map old.entries) (field_map new.entries) (λ n. HasBoost (last_boost boosts n))
    (borrowed (take i names)) key field put
    (subst (λ n. HasBoost (last_boost boosts n) field) (sym is) c.boosted_field.ensures) c.loop-name.invariant q in (
      both.0 ∙ ap (has_name q) (ap (λ k. borrowed (take i names) ++ k ∷ []) is
          ∙ sym (next_field names i other (omega arith))),
      both.1,
    )
