use Rattle.std.proofs.Common.{arith, ap, ◌∙◌}
use Rattle.std.specs.Prelude.{slice_range, vec_len}
use Rattle.elasticlunr_piece_head.proofs.Sums.{if_none, too_many}
use Rattle.elasticlunr_piece_head.proofs.head.PieceHead.references_in.Goals as goal

pub returns-in_err-before-clause-none : goal.returns-in_err-before-clause-none
returns-in_err-before-clause-none c =
    let head = c.args.self.now in
    let counts = head.texts.items in
    let n = c.args.number in
    let texts = head.texts.ok in
    let references = head.references.ok in
    let small = head.references.small in
    if_none c.from_residual-in_err-before.result _ (λ at.
    let low = at.0 in
    too_many counts c.in_ok-get.field-0.now n (vec_len head.references)
    (c.in_ok-get.ensures.lookup.0.2 ∙ ap (λ xs. slice_range xs 0 n) c.deref.ensures.value)
    c.in_err-before.ensures.none (omega (arith, small, references.1)) (omega (arith, low, texts.0)) at.1)
