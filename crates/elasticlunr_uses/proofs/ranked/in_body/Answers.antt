use Rattle.std.proofs.Common.{◌≡◌, arith, ap, sym, ◌∙◌, string_bytes}
use Rattle.std.proofs.lemmas.Map.Text.{btree_map_updates_text}
use Rattle.std.specs.FinMap.{insert}
use Rattle.std.specs.Prelude.{unwrap_or}
use Rattle.elasticlunr_laws.proofs.RankedCalls.{none_named, one_named}
use Rattle.elasticlunr_laws.proofs.Seen.{seen_inserted}
use Rattle.elasticlunr_search.specs.declared.words.Join.TheVariants.{Any}
use Rattle.elasticlunr_uses.proofs.ranked.in_body.Goals as goal

pub returns : goal.returns
returns c =
    let key = string_bytes c.in_ok-body.body in
    let own = c.default.result in
    let put = seen_inserted (λ field. field) c.new-options.result.fields c.insert.new.self key own
    (btree_map_updates_text key c.new-options.result.fields c.insert.new.self _ c.in_ok-insert.ensures.updates) in
    one_named _ Any _ own
    (put ∙ (ap (λ o. insert o.fields key own) c.new-options.ensures ∙ ap (λ k. insert none_named k own) c.in_ok-body.ensures.ok))
    (ap (λ b. unwrap_or b c.new-options.result.bool) c.default.ensures.bool ∙ ap (λ o. o.bool) c.new-options.ensures)
    (ap (λ e. unwrap_or e c.new-options.result.expand) c.default.ensures.expand
    ∙ ap (λ o. o.expand) c.new-options.ensures)
    (λ e. let one : 1 ≡ 0 = sym (ap (λ b. unwrap_or b 1) c.default.ensures.boost) ∙ e in omega (arith, one))
