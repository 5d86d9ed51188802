use Rattle.std.proofs.Common.{[], ◌∷◌, ◌++◌, ◌∙◌, List, ap, map, subst, sym}
use Rattle.std.proofs.lemmas.List.{take_all}
use Rattle.elasticlunr_error.specs.Text.{Text, texts_of}
use Rattle.elasticlunr_ranking.specs.Fields.{Field, field_of}
use Rattle.elasticlunr_ranking.specs.Weights.{AreAllLookedUp, added, field_score, total_score}
use Rattle.elasticlunr_ranking.proofs.Steps.{field_step}
use Rattle.elasticlunr_ranking.proofs.Sums.{sum_push}
use Rattle.elasticlunr_ranking.proofs.Under.{scores_of}
use Rattle.elasticlunr_ranking.proofs.total.total_scores.Goals as goal

pub loop-field-preserved : goal.loop-field-preserved
loop-field-preserved c =
    let done = c.loop-field.invariant in
    let more = c.in_ok-add_field.ensures in
    let field = field_of c.field-item.result in (
      done.0 ++ (field, more.0) ∷ [],
      field_step (texts_of c.args.tokens.now) c.args.fields.now c.loop-field.field-index c.field-item.result
          c.loop-field-test.true c.field-item.is done.0 more.0 done.1 more.1,
      λ r. more.2 r ∙ ap (λ o. added o (field_score field more.0 r)) (done.2 r)
          ∙ sym (sum_push (λ (f : Field × List (Text × List Text)). field_score f.0 f.1 r) done.0 (field, more.0)),
    )

pub returns : goal.returns
returns c =
    let done = c.loop-field.invariant in
    let fields = c.args.fields.now in (
      done.0,
      subst (λ fs. AreAllLookedUp (map field_of fs) (texts_of c.args.tokens.now) done.0)
          (take_all c.loop-field.field-index fields c.loop-field-test.false) done.1,
      scores_of c.loop-field.totals c.in_ok-entries.entries.items (total_score done.0) c.in_ok-entries.ensures.order
          c.in_ok-entries.ensures.same done.2,
    )
