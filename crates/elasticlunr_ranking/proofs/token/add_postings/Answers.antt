use Rattle.std.proofs.Common.{◌∙◌, ap, unwrap_or}
use Rattle.std.proofs.lemmas.Map.Text.{btree_map_updates_str}
use Rattle.elasticlunr_ranking.specs.Fields.{field_of}
use Rattle.elasticlunr_ranking.specs.Held.{held}
use Rattle.elasticlunr_ranking.specs.Weights.{norm_of}
use Rattle.elasticlunr_ranking.specs.Numbers.{zero_double}
use Rattle.elasticlunr_ranking.proofs.Weighing.{posting_step}
use Rattle.elasticlunr_ranking.proofs.token.add_postings.Goals as goal

pub loop-reference-preserved : goal.loop-reference-preserved
loop-reference-preserved c =
    posting_step (field_of c.args.field.now) (held c.args.scores.now) (held c.loop-reference.scores)
    (held c.insert.new.self) c.args.idf c.args.penalty c.args.postings.now c.loop-reference.reference-index _
    c.loop-reference-test.true _ _ _
    (c.unwrap_or-score.ensures ∙ ap (λ o. unwrap_or o zero_double) (c.copied.ensures ∙ c.get.ensures.value))
    (c.norm-norm.ensures ∙ ap norm_of c.get_field_length.ensures) c.nearest_u64_to_f64.ensures
    c.loop-reference.invariant
    (btree_map_updates_str _ c.loop-reference.scores c.insert.new.self _ c.in_ok-insert.ensures.updates)
