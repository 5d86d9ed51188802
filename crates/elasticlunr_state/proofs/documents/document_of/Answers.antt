use Rattle.std.proofs.Common.{◌≡◌, ◌<◌, ◌+◌, List, [], ◌∷◌, ◌++◌, Some, ap, sym, subst, ◌∙◌, map, take, length, get_or}
use Rattle.std.proofs.Common.{string_bytes, arith, refl}
use Rattle.std.specs.Borrow.{Bor}
use Rattle.std.specs.List.{slice_get}
use Rattle.std.proofs.lemmas.List.{map-append, take_more, take_all, length-take}
use Rattle.std.proofs.lemmas.Option.{slice_get_read}
use Rattle.elasticlunr_error.specs.Text.{Bytes, bytes_of}
use Rattle.elasticlunr_store.specs.Contents.{text_map}
use Rattle.elasticlunr_state.specs.Texts.{reference_alone, with_texts}
use Rattle.elasticlunr_state.proofs.Counting.{mapped_there}
use Rattle.elasticlunr_state.proofs.Entering.{one_more_text, length-mapped}
use Rattle.elasticlunr_state.proofs.Storing.{texts_put}
use Rattle.elasticlunr_state.proofs.documents.document_of.Goals as goal

pub loop-i-init : goal.loop-i-init
loop-i-init c = texts_put c.new-document.result c.insert.new.self c.in_ok-from_str.field-0 c.in_ok-from_str-2.field-0 _
    c.args.ref_field.now c.args.doc_ref.now c.in_ok-insert.ensures.updates (ap text_map c.new-document.ensures.empty)
    c.in_ok-from_str.ensures.ok c.in_ok-from_str-2.ensures.ok

pub loop-i-preserved : goal.loop-i-preserved
loop-i-preserved c =
    let inside : c.loop-i.i < length c.args.values.now = c.loop-i-test.true in
    let nothing : Bor Bytes = record { ref_ptr = (0, 0); now = [] } in
    let value : Bor Bytes = get_or c.args.values.now c.loop-i.i nothing in
    let value_is : string_bytes c.in_ok-from_str-4.field-0 ≡ value.now = c.in_ok-from_str-4.ensures.ok in
    let so_far : List Bytes = map (λ v. v.now) (take c.loop-i.i c.args.values.now) in
    let at : c.loop-i.i ≡ length so_far = sym (length-mapped _ (take c.loop-i.i c.args.values.now)
    ∙ length-take c.loop-i.i c.args.values.now ∙ omega (arith, inside)) in
    let field_read : slice_get c.args.fields.now c.loop-i.i ≡ Some c.index-fields-i.result =
    slice_get_read c.args.fields.now (length c.args.fields.now) c.loop-i.i c.index-fields-i.result refl
    (omega (arith, inside, c.requires)) c.index-fields-i.is in
    let field_at : slice_get (bytes_of c.args.fields.now) (length so_far) ≡ Some c.as_str.result.now =
    subst (λ k. slice_get (bytes_of c.args.fields.now) k ≡ Some c.as_str.result.now) at
    (mapped_there string_bytes c.args.fields.now c.loop-i.i c.index-fields-i.result field_read
    ∙ ap Some (sym c.as_str.ensures.value)) in
    let more : map (λ v. v.now) (take (c.loop-i.i + 1) c.args.values.now) ≡ so_far ++ value.now
    ∷ [] = ap (map (λ v. v.now)) (take_more c.args.values.now c.loop-i.i nothing inside)
    ∙ map-append _ (take c.loop-i.i c.args.values.now) _ in
    texts_put c.loop-i.document c.insert-in-loop-i.new.self c.in_ok-from_str-3.field-0 c.in_ok-from_str-4.field-0 _
    c.as_str.result.now value.now c.in_ok-insert-2.ensures.updates c.loop-i.invariant
    c.in_ok-from_str-3.ensures.ok value_is
    ∙ one_more_text (reference_alone c.args.ref_field.now c.args.doc_ref.now) (bytes_of c.args.fields.now) so_far
    c.as_str.result.now value.now field_at
    ∙ ap (with_texts (reference_alone c.args.ref_field.now c.args.doc_ref.now) (bytes_of c.args.fields.now)) (sym more)

pub returns-clause-texts : goal.returns-clause-texts
returns-clause-texts c = c.loop-i.invariant
    ∙ ap (λ vs. with_texts (reference_alone c.args.ref_field.now c.args.doc_ref.now) (bytes_of c.args.fields.now)
    (map (λ v. v.now) vs)) (take_all c.loop-i.i c.args.values.now c.loop-i-test.false)
