use Rattle.std.proofs.Common.{[], ◌∷◌, ◌++◌, ap, sym, ◌∙◌, arith, map, string_bytes, take}
use Rattle.std.proofs.lemmas.List.{map-append, take_all}
use Rattle.elasticlunr_ranking.specs.Order.{told_hits}
use Rattle.elasticlunr_search.specs.Lines.{lines}
use Rattle.elasticlunr_hits.specs.Hits.{Told}
use Rattle.elasticlunr_hits.proofs.Texts.{lines_more, told_more}
use Rattle.elasticlunr_hits.proofs.lines.reference_lines.Goals as goal

pub loop-hit-preserved : goal.loop-hit-preserved
unfolding lib.Utf8.encode
loop-hit-preserved c =
    let hits = c.args.hits.now in
    let i = c.loop-hit.hit-index in
    let hit = c.hit-item.result in
    let first = λ (h : Told). h.0 in
    let reference = string_bytes hit.reference in
    lines_more (map first (told_hits (take i hits))) reference _ _ _ c.loop-hit.invariant
    (c.in_ok-push_str.ensures.bytes ∙ ap (λ t. string_bytes c.loop-hit.text ++ t) c.as_str.ensures.value)
    c.in_ok-push.ensures.bytes
    ∙ ap lines (sym (ap (map first) (told_more hits i hit (omega arith) c.hit-item.is)
    ∙ map-append first (told_hits (take i hits)) ((reference, hit.score) ∷ [])))

pub returns : goal.returns
returns c = c.loop-hit.invariant
    ∙ ap (λ hs. lines (map (λ hit. hit.0) (told_hits hs))) (take_all c.loop-hit.hit-index c.args.hits.now c.loop-hit-test.false)
