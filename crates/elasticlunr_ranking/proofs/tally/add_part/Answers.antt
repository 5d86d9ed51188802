use Rattle.std.proofs.Common.{◌∙◌, ap, bytes_eq, sym, Some, unwrap_or}
use Rattle.std.proofs.lemmas.Map.Text.{btree_map_updates_str}
use Rattle.std.specs.Map.{update}
use Rattle.elasticlunr_ranking.specs.Doubles.{◌+ᵈ◌}
use Rattle.elasticlunr_ranking.specs.Held.{held}
use Rattle.elasticlunr_ranking.specs.Weights.{added}
use Rattle.elasticlunr_ranking.specs.Numbers.{zero_double}
use Rattle.elasticlunr_ranking.proofs.tally.add_part.Goals as goal

pub returns-in_ok-insert : goal.returns-in_ok-insert
returns-in_ok-insert c r =
    let old = held c.args.totals.now in
    let reference = c.args.reference.now in
    btree_map_updates_str reference c.args.totals.now c.insert.new.self _ c.in_ok-insert.ensures.updates r
    ∙ ap (λ t. update bytes_eq old reference (Some (t +ᵈ c.in-Some.part)) r)
    (c.unwrap_or-total.ensures ∙ ap (λ o. unwrap_or o zero_double) (c.copied.ensures ∙ c.get.ensures.value))
    ∙ ap (λ p. update bytes_eq old reference (added (old reference) p) r) (sym c.in-Some.is)
