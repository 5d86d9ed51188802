use Rattle.std.proofs.Common.{◌∙◌, ap, nat_lt, refl, rules, unwrap_or}
use Rattle.std.proofs.lemmas.Fn.{filter_same}
use Rattle.std.specs.Borrow.{Bor}
use Rattle.elasticlunr_text.specs.Text.{Bytes}
use Rattle.elasticlunr.specs.Fields.{borrowed}
use Rattle.elasticlunr_search.proofs.Steps.{map-filter}
use Rattle.elasticlunr_hits.specs.Asked.{boosted, last_boost}
use Rattle.elasticlunr_hits.proofs.fields.boosted_names.Goals as goal

pub returns : goal.returns
returns c =
    let boosts = c.args.boosts.now in
    let weighs = λ (name : Bytes). nat_lt 0 (unwrap_or (last_boost boosts name) 1) in
    let only = filter_same _ (λ (name : Bor Bytes). weighs name.now) _ (λ x b f k. (search rules, search rules))
    c.in_ok-kept.kept.items c.retain.new.self.items c.retain.ensures.filtered in
    ap borrowed only
    ∙ map-filter (λ (name : Bor Bytes). name.now) weighs (λ name. weighs name.now) (λ name. refl) c.in_ok-kept.kept.items
    ∙ ap (λ names. boosted boosts (borrowed names)) c.in_ok-kept.ensures.items
