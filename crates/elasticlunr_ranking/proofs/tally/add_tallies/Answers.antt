use Rattle.elasticlunr_ranking.specs.Fields.{field_of}
use Rattle.elasticlunr_ranking.specs.Held.{held}
use Rattle.elasticlunr_ranking.proofs.Weighing.{score_step}
use Rattle.elasticlunr_ranking.proofs.tally.add_tallies.Goals as goal

pub loop-reference-preserved : goal.loop-reference-preserved
loop-reference-preserved c =
    score_step (field_of c.args.field.now) (held c.args.totals.now) (held c.loop-reference.totals)
    (held c.add_part.new.totals) c.args.tokens c.args.tallies.now c.loop-reference.reference-index _
    c.loop-reference-test.true _ c.score_of.ensures c.loop-reference.invariant c.in_ok-add_part.ensures
