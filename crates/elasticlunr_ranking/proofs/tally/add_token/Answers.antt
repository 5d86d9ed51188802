use Rattle.std.proofs.Common.{◌∙◌}
use Rattle.std.proofs.lemmas.Map.Text.{btree_map_updates_str}
use Rattle.std.specs.Str.{chars}
use Rattle.elasticlunr_ranking.specs.Fields.{field_of}
use Rattle.elasticlunr_ranking.specs.Held.{held}
use Rattle.elasticlunr_ranking.proofs.Weighing.{tally_step}
use Rattle.elasticlunr_ranking.proofs.tally.add_token.Goals as goal

pub loop-reference-preserved : goal.loop-reference-preserved
loop-reference-preserved c =
    tally_step (field_of c.args.field.now) (chars c.args.token.now) (held c.args.tallies.now)
    (held c.loop-reference.tallies) (held c.insert.new.self) c.args.scores.now c.loop-reference.reference-index _
    c.loop-reference-test.true _ _ _ (c.copied-before.ensures ∙ c.get.ensures.value) c.has_posting-exact.ensures
    c.tally_with.ensures c.loop-reference.invariant
    (btree_map_updates_str _ c.loop-reference.tallies c.insert.new.self _ c.in_ok-insert.ensures.updates)
