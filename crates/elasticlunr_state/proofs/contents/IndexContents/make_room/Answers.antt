use Rattle.std.proofs.Common.{◌≡◌, length, sym, subst, ◌∙◌}
use Rattle.elasticlunr_commands.specs.Entered.{MakesRoom}
use Rattle.elasticlunr_state.specs.Others.{OthersStay}
use Rattle.elasticlunr_state.proofs.Entering.{room_taken, room_there}
use Rattle.elasticlunr_state.proofs.Others.{stay, stay_without}
use Rattle.elasticlunr_state.proofs.contents.IndexContents.make_room.Goals as goal

pub returns-then-has_doc-clause-room : goal.returns-then-has_doc-clause-room
returns-then-has_doc-clause-room c = λ _. subst
    (MakesRoom c.args.doc_ref.now c.args.self.now.tries.items c.remove_document.new.self.tries.items
    c.args.self.now.store) (sym c.remove_document.ensures.store)
    (room_taken c.args.doc_ref.now c.args.self.now.tries.items c.remove_document.new.self.tries.items
    c.args.self.now.store c.remove_document.ensures.tries)

pub returns-else-has_doc-clause-room : goal.returns-else-has_doc-clause-room
returns-else-has_doc-clause-room c = λ only. room_there c.args.doc_ref.now c.args.self.now.tries.items
    c.args.self.now.store only (sym c.has_doc.ensures ∙ c.if-has_doc.false)

pub returns-then-has_doc-clause-others_stay : goal.returns-then-has_doc-clause-others_stay
returns-then-has_doc-clause-others_stay c =
    let many : length c.remove_document.new.self.tries.items ≡ length c.args.self.now.tries.items =
    sym c.remove_document.new.self.tries.ok.0 ∙ c.remove_document.ensures.as_many ∙ c.args.self.now.tries.ok.0 in
    subst (OthersStay c.args.doc_ref.now c.args.self.now.tries.items c.remove_document.new.self.tries.items
    c.args.self.now.store) (sym c.remove_document.ensures.store)
    (stay_without c.args.doc_ref.now c.args.self.now.tries.items c.remove_document.new.self.tries.items
    c.args.self.now.store many c.remove_document.ensures.tries)

pub returns-else-has_doc-clause-others_stay : goal.returns-else-has_doc-clause-others_stay
returns-else-has_doc-clause-others_stay c = stay c.args.doc_ref.now c.args.self.now.tries.items c.args.self.now.store
