use Rattle.std.proofs.Common.{◌≡◌, ◌≤◌, ◌<◌, ◌+◌, ◌++◌, ◌∷◌, [], get_or, length, map, take, subst, sym, ap, ◌∙◌, arith}
use Rattle.std.proofs.lemmas.List.{get_or-map, length-map, take_all}
use Rattle.serde_json.specs.View.{view}
use Rattle.elasticlunr_job_format.specs.Objects.{IsDocumentOf}
use Rattle.elasticlunr_job_format.specs.ObjectsTold.{options_told, texts_told}
use Rattle.elasticlunr_job_format.proofs.FieldTexts.{AllZip-push}
use Rattle.elasticlunr_input.specs.NotedAll.{AreToldOf, IsToldOf}
use Rattle.elasticlunr_input.specs.Warnings.{end_warnings, warnings_of}
use Rattle.elasticlunr_input.proofs.NotingAll.{all_noted, noted_more, on_more}
use Rattle.elasticlunr_input.proofs.Tellings.{document_at}
use Rattle.elasticlunr_input.proofs.Warned.{map_more}
use Rattle.elasticlunr_input.proofs.documents.note_objects.Goals as goal

pub loop-item-preserved : goal.loop-item-preserved
loop-item-preserved c docs are =
    let options = options_told c.args.options.now in
    let items = c.args.items.now in
    let values = map view items in
    let i = c.loop-item.item-index in
    let item = c.item-item.result in
    let less : i < length items = c.loop-item-test.true in
    let long = length-map items view in
    let before = c.loop-item.invariant docs are in
    let doc = document_at options values docs i (view item) (omega (arith, less, long)) are in
    let here : get_or values i (view item) ≡ view item = get_or-map view items i item (view item) less
    ∙ ap view (sym c.item-item.is) in
    let next = c.in_ok-note_object.ensures doc.0 (subst (λ v. IsDocumentOf options v doc.0) here doc.1) in
    let more : take (i + 1) values ≡ take i values ++ view item ∷ [] = map_more view items i item less
    ∙ ap (λ v. take i values ++ view v ∷ []) (sym c.item-item.is) in (
      before.0 ++ next.0 ∷ [],
      subst (λ ds. AreToldOf options ds (before.0 ++ next.0 ∷ [])) (sym more)
          (AllZip-push (IsToldOf options) (take i values) before.0 (view item) next.0 before.1 next.1),
      noted_more c.args.notes.now c.loop-item.notes c.note_object.new.notes before.0 next.0 before.2 next.2,
    )

pub returns : goal.returns
returns c =
    let options = options_told c.args.options.now in
    let values = map view c.args.items.now in
    let i = c.loop-item.item-index in
    let last = c.loop-item.notes in
    let long = length-map c.args.items.now view in
    let past : length values ≤ i = omega (arith, c.loop-item-test.false, long) in
    on_more c.end.result c.end.ensures.warnings (λ ends docs are. (let all = c.loop-item.invariant docs are in (
      all.0,
      subst (λ ds. AreToldOf options ds all.0) (take_all i values past) all.1,
      (
        last,
        all.2,
        all_noted c.args.notes.now last c.end.new.self all.0 options.fields all.2
            (ends ∙ ap (λ fs. warnings_of last ++ end_warnings last (texts_told fs)) c.deref.ensures.value),
        c.end.ensures.words,
      ),
    )))
