use Rattle.std.proofs.Common.{◌∙◌, ap, map}
use Rattle.std.proofs.lemmas.List.{take_all}
use Rattle.std.specs.BTreeMap.{is_at}
use Rattle.std.specs.Map.{lookup}
use Rattle.std.specs.Str.{chars}
use Rattle.elasticlunr_error.specs.Text.{text_cmp, texts_of}
use Rattle.elasticlunr_ranking.specs.Fields.{field_of}
use Rattle.elasticlunr_ranking.specs.Held.{held}
use Rattle.elasticlunr_ranking.specs.Weights.{added, part, sum_of, token_score}
use Rattle.elasticlunr_ranking.proofs.Steps.{word_step}
use Rattle.elasticlunr_ranking.proofs.Under.{scores_of}
use Rattle.elasticlunr_ranking.proofs.token.token_scores.Goals as goal

pub loop-word-init : goal.loop-word-init
loop-word-init c r = ap (lookup (is_at (λ k. text_cmp r k.now))) c.new-scores.ensures.empty

pub loop-word-preserved : goal.loop-word-preserved
loop-word-preserved c r =
    let field = field_of c.args.field.now in
    let token = chars c.args.token.now in
    word_step (λ word. part field token word r) _ c.loop-word.word-index c.word-item.result c.loop-word-test.true
    c.word-item.is _ _ (c.loop-word.invariant r)
    (c.in_ok-add_word.ensures r
    ∙ ap (λ b. added (held c.loop-word.scores r) (part field token (chars b) r)) c.as_str.ensures.value)

pub returns : goal.returns
returns c =
    let field = field_of c.args.field.now in
    let token = chars c.args.token.now in
    let words = c.in_ok-words.words.items in (
      texts_of words,
      c.in_ok-words.ensures,
      scores_of c.loop-word.scores c.in_ok-entries.entries.items (token_score field token (texts_of words))
          c.in_ok-entries.ensures.order c.in_ok-entries.ensures.same
          (λ r. c.loop-word.invariant r ∙ ap (λ ws. sum_of (map (λ word. part field token word r) (texts_of ws)))
          (take_all c.loop-word.word-index c.deref-word-items.result.now c.loop-word-test.false
          ∙ c.deref-word-items.ensures.value)),
    )
