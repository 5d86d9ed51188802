use Rattle.std.proofs.Common.{◌≡◌, ◌∙◌, List, ap, arith, length}
use Rattle.std.proofs.lemmas.List.{length-map}
use Rattle.elasticlunr_error.specs.Text.{Text, text_of}
use Rattle.elasticlunr_ranking.specs.Fields.{field_of}
use Rattle.elasticlunr_ranking.specs.Held.{held, told, under}
use Rattle.elasticlunr_ranking.specs.Tallies.{add_score}
use Rattle.elasticlunr_ranking.proofs.Tallying.{field_counted}
use Rattle.elasticlunr_ranking.proofs.tally.add_field.Goals as goal

pub returns : goal.returns
returns c =
    let tallies = c.in_ok-tallies.ensures in
    let field = field_of c.args.field.now in
    let tokens = c.args.tokens.now in
    let many : length tokens ≡ length tallies.0 = omega (
      arith,
      ap length tallies.1.0,
      length-map tallies.0 (λ (t : Text × List Text). t.0),
      length-map tokens text_of,
    ) in (
      tallies.0,
      tallies.1,
      λ r. let old = held c.args.totals.now r in
          c.in_ok-add_tallies.ensures r
          ∙ ap (λ l. under (add_score field (length tokens)) r old (told l)) c.deref.ensures.value
          ∙ field_counted field (length tokens) tallies.0 many (told c.in_ok-tallies.tallies.items) tallies.2 r old,
    )
