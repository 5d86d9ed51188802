use Rattle.std.proofs.Common.{◌<◌, ◌∙◌, [], ◌∷◌, ◌++◌, List, ap, arith, length, subst, sym, take}
use Rattle.std.proofs.lemmas.List.{length-map, length-take, take_all}
use Rattle.std.specs.Str.{chars}
use Rattle.elasticlunr_error.specs.Text.{Text, text_of, texts_of}
use Rattle.elasticlunr_ranking.specs.Fields.{field_of}
use Rattle.elasticlunr_ranking.specs.Held.{Scores, held, told}
use Rattle.elasticlunr_ranking.specs.Tallies.{tally_of}
use Rattle.elasticlunr_ranking.specs.Weights.{AreLookedUp, token_score}
use Rattle.elasticlunr_ranking.proofs.Steps.{token_step}
use Rattle.elasticlunr_ranking.proofs.Tallying.{token_counted}
use Rattle.elasticlunr_ranking.proofs.Under.{scores_of}
use Rattle.elasticlunr_ranking.proofs.tally.field_tallies.Goals as goal

pub loop-token-preserved : goal.loop-token-preserved
loop-token-preserved c =
    let done = c.loop-token.invariant in
    let more = c.in_ok-scores.ensures in
    let field = field_of c.args.field.now in
    let tokens = c.args.tokens.now in
    let i = c.loop-token.token-index in
    let token = chars c.as_str-text.result.now in
    let small : length done.0 < 18446744073709551615 = omega (
      arith,
      ap length done.1.0,
      length-map done.0 (λ (t : Text × List Text). t.0),
      length-map (take i tokens) text_of,
      length-take i tokens,
    ) in (
      done.0 ++ (token, more.0) ∷ [],
      token_step field tokens i c.token-item.result c.loop-token-test.true c.token-item.is token
          (ap chars c.as_str-text.ensures.value) done.0 more.0 done.1 more.1,
      λ r. c.in_ok-add_token.ensures r
          ∙ token_counted field token more.0 (told c.deref.result.now)
          (subst (λ es. Scores (told es) (token_score field token more.0)) (sym c.deref.ensures.value) more.2) r
          (held c.loop-token.tallies r) done.0 (done.2 r) small,
    )

pub returns : goal.returns
returns c =
    let done = c.loop-token.invariant in
    let field = field_of c.args.field.now in (
      done.0,
      subst (λ ts. AreLookedUp field (texts_of ts) done.0)
          (take_all c.loop-token.token-index c.args.tokens.now c.loop-token-test.false) done.1,
      scores_of c.loop-token.tallies c.in_ok-entries.entries.items (tally_of field done.0)
          c.in_ok-entries.ensures.order c.in_ok-entries.ensures.same done.2,
    )
