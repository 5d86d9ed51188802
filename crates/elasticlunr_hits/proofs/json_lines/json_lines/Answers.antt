use Rattle.std.proofs.Common.{[], ◌∷◌, ◌++◌, ap, sym, subst, ◌∙◌, arith, string_bytes, take}
use Rattle.std.specs.FinMap.{get}
use Rattle.std.specs.List.{AllZip}
use Rattle.std.proofs.lemmas.List.{take_all}
use Rattle.elasticlunr_text.specs.Text.{Bytes}
use Rattle.elasticlunr_ranking.specs.Order.{told_hits}
use Rattle.elasticlunr_search.specs.Standing.{kept_contents}
use Rattle.elasticlunr_hits.specs.Hits.{Told}
use Rattle.elasticlunr_hits.specs.Lines.{AreJsonLines, IsHitText}
use Rattle.elasticlunr_hits.proofs.Texts.{lines_more, told_more, zip_more}
use Rattle.elasticlunr_hits.proofs.json_lines.json_lines.Goals as goal

pub loop-hit-init : goal.loop-hit-init
loop-hit-init g c = ([], tt, c.new-lines.ensures.bytes)

pub loop-hit-preserved : goal.loop-hit-preserved
unfolding lib.Utf8.encode
loop-hit-preserved g c =
    let hits = c.args.hits.now in
    let i = c.loop-hit.hit-index in
    let hit = c.hit-item.result in
    let contents = kept_contents c.args.searcher.now in
    let told : Told = (string_bytes hit.reference, hit.score) in
    let line = string_bytes c.in_ok-line.line in
    let held = c.loop-hit.invariant in
    let text = subst (λ o. IsHitText o told line)
    (c.in_ok-texts.ensures ∙ ap (λ r. get contents.texts r) c.as_str.ensures.value) c.in_ok-line.ensures in
    let Fits = λ (h : Told) (l : Bytes). IsHitText (get contents.texts h.0) h l in (
      held.0 ++ line ∷ [],
      subst (λ hs. AllZip Fits hs (held.0 ++ line ∷ [])) (sym (told_more hits i hit (omega arith) c.hit-item.is))
          (zip_more Fits (told_hits (take i hits)) held.0 told line held.1 text),
      lines_more held.0 line _ _ _ held.2
          (c.in_ok-push_str.ensures.bytes ∙ ap (λ t. string_bytes c.loop-hit.lines ++ t) c.as_str-in-loop-hit.ensures.value)
          c.in_ok-push.ensures.bytes,
    )

pub returns : goal.returns
returns g c = subst (λ hs. AreJsonLines (kept_contents c.args.searcher.now) (told_hits hs) (string_bytes c.loop-hit.lines))
    (take_all c.loop-hit.hit-index c.args.hits.now c.loop-hit-test.false) c.loop-hit.invariant
