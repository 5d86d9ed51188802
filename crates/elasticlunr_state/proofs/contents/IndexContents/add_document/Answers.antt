use Rattle.std.proofs.Common.{◌≡◌, true, length, map, ap, sym, subst, ◌∙◌, true≢false}
use Rattle.std.proofs.lemmas.Result.{on_ok_weaker}
use Rattle.elasticlunr_error.specs.Text.{bytes_of}
use Rattle.elasticlunr_store.specs.Contents.{text_map}
use Rattle.elasticlunr_state.specs.Texts.{token_texts, reference_alone, with_texts}
use Rattle.elasticlunr_commands.specs.Entered.{HoldsOneMore}
use Rattle.elasticlunr_state.specs.Others.{OthersStay}
use Rattle.elasticlunr_state.proofs.Entering.{holds_after}
use Rattle.elasticlunr_state.proofs.Others.{either_way, stay, stay_document, stay_on}
use Rattle.elasticlunr_state.proofs.contents.IndexContents.add_document.Goals.{then-is_stored+in_ok-document}
use Rattle.elasticlunr_state.proofs.contents.IndexContents.add_document.Goals.{else-is_stored}
use Rattle.elasticlunr_state.proofs.contents.IndexContents.add_document.Goals as goal

pub returns-clause-entered : goal.returns-clause-entered
returns-clause-entered c =
    let texts_are : c.enter_tokens.new.self.store.save ≡ true → text_map c.if-is_stored.document.entries
    ≡ with_texts (reference_alone c.args.ref_field.now c.args.doc_ref.now) (bytes_of c.args.fields.now)
    (map (λ value. value.now) c.args.values.now) =
    λ saved. elim c.if-is_stored.branch [
      | then-is_stored+in_ok-document w ↦ ap (λ d. text_map d.entries) w.document-is ∙ w.in_ok-document.ensures.texts
      | else-is_stored w ↦ absurd (true≢false (sym saved ∙ sym c.is_stored.ensures ∙ w.if-is_stored.false))
    ] in
    let many : length c.make_room.new.self.tries.items ≡ length c.args.self.now.tries.items =
    sym c.make_room.new.self.tries.ok.0 ∙ c.make_room.ensures.as_many ∙ c.args.self.now.tries.ok.0 in
    on_ok_weaker {Q = HoldsOneMore (bytes_of c.args.fields.now) c.args.ref_field.now c.args.doc_ref.now
    (map (λ value. value.now) c.args.values.now) (token_texts c.args.tokens.items)
    c.args.self.now.tries.items c.args.self.now.store c.enter_tokens.new.self.tries.items c.add_doc.new.self}
    c.add_doc.result (λ stored plan document commands fields differ reference_field made held.
    holds_after plan document commands (bytes_of c.args.fields.now) c.args.ref_field.now c.args.doc_ref.now
    (map (λ value. value.now) c.args.values.now) (token_texts c.args.tokens.items)
    c.args.self.now.tries.items c.make_room.new.self.tries.items c.enter_tokens.new.self.tries.items
    c.args.self.now.store c.make_room.new.self.store c.enter_tokens.new.self.store c.add_doc.new.self
    (text_map c.if-is_stored.document.entries)
    fields differ reference_field made held many c.make_room.ensures.room c.in_ok-enter_tokens.ensures.tables
    c.in_ok-enter_tokens.ensures.store texts_are stored) c.add_doc.ensures.ok

pub returns-in_err-enter_tokens-clause-others_stay : goal.returns-in_err-enter_tokens-clause-others_stay
returns-in_err-enter_tokens-clause-others_stay c =
    stay_on c.args.doc_ref.now c.args.self.now.tries.items c.make_room.new.self.tries.items
    c.enter_tokens.new.self.tries.items c.args.self.now.store c.make_room.new.self.store
    c.enter_tokens.new.self.store
    c.make_room.ensures.others_stay c.enter_tokens.ensures.others_stay

pub returns-in_err-document-clause-others_stay : goal.returns-in_err-document-clause-others_stay
returns-in_err-document-clause-others_stay c =
    stay_on c.args.doc_ref.now c.args.self.now.tries.items c.make_room.new.self.tries.items
    c.enter_tokens.new.self.tries.items c.args.self.now.store c.make_room.new.self.store
    c.enter_tokens.new.self.store
    c.make_room.ensures.others_stay c.enter_tokens.ensures.others_stay

-- the document is put in, or nothing more is done
pub returns-clause-others_stay : goal.returns-clause-others_stay
returns-clause-others_stay c =
    let reference = c.args.doc_ref.now in
    let tables = c.enter_tokens.new.self.tries.items in
    let store = c.enter_tokens.new.self.store in
    let stored : OthersStay reference tables tables store c.add_doc.new.self =
    either_way c.add_doc.result
    (λ is. subst (OthersStay reference tables tables store) (sym is)
    (stay_document reference tables store (text_map c.if-is_stored.document.entries)))
    (λ is. subst (OthersStay reference tables tables store) (sym is) (stay reference tables store)) c.add_doc.ensures.ok
    c.add_doc.ensures.err in
    stay_on reference c.args.self.now.tries.items tables tables c.args.self.now.store store c.add_doc.new.self
    (stay_on reference c.args.self.now.tries.items c.make_room.new.self.tries.items tables c.args.self.now.store
    c.make_room.new.self.store store c.make_room.ensures.others_stay c.enter_tokens.ensures.others_stay)
    stored
