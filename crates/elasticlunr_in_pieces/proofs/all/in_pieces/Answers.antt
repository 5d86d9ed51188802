use Rattle.std.proofs.Common.{Bor, ap, subst}
use Rattle.elasticlunr_error.specs.Text.{Bytes}
use Rattle.elasticlunr_in_pieces.proofs.Making.{Steps, fewer, next_file, none_yet, whole_folder}
use Rattle.elasticlunr_in_pieces.proofs.all.in_pieces.Goals as goal

pub loop-pieces-init : goal.loop-pieces-init
loop-pieces-init c = none_yet c.args.parts c.args.title.now c.args.size c.in_ok-making.making c.new-pieces.result.items
    c.in_ok-making.ensures.made c.new-pieces.ensures.items c.in_ok-making.ensures.parts
    (ap (λ (f : Bor Bytes). f.now) c.in_ok-making.ensures.field) c.in_ok-making.ensures.size

pub loop-pieces-smaller : goal.loop-pieces-smaller
loop-pieces-smaller c = fewer c.args.parts c.args.title.now c.args.size c.loop-pieces.making c.next_piece.new.self
    c.loop-pieces.pieces.items c.in-Some.piece c.loop-pieces.invariant
    (subst (Steps c.loop-pieces.making c.next_piece.new.self) c.in-Some.is c.in_ok-piece.ensures.next)
    c.next_piece.ensures.parts c.next_piece.ensures.field

pub loop-pieces-preserved : goal.loop-pieces-preserved
loop-pieces-preserved c = next_file c.args.parts c.args.title.now c.args.size c.loop-pieces.making
    c.next_piece.new.self c.loop-pieces.pieces.items c.push.new.self.items c.in-Some.piece c.loop-pieces.invariant
    (subst (Steps c.loop-pieces.making c.next_piece.new.self) c.in-Some.is c.in_ok-piece.ensures.next)
    c.next_piece.ensures.parts c.next_piece.ensures.field c.next_piece.ensures.size c.in_ok-push.ensures.items

pub returns-clause-made : goal.returns-clause-made
returns-clause-made c = whole_folder c.args.parts c.args.title.now c.args.size c.loop-pieces.making
    c.next_piece.new.self _ c.loop-pieces.invariant
    (subst (Steps c.loop-pieces.making c.next_piece.new.self) c.in_default.is c.in_ok-piece.ensures.next)
    c.next_piece.ensures.parts c.next_piece.ensures.field c.in_ok-head.ensures.head
