use Rattle.std.proofs.Common.{string_bytes, arith, sym, subst, inl, inr}
use Rattle.std.proofs.lemmas.List.{length-map}
use Rattle.elasticlunr_error.specs.Text.{bytes_of}
use Rattle.elasticlunr_piece_head.specs.Choice.{Ends}
use Rattle.elasticlunr_piece_head.proofs.Choosing.{chosen}
use Rattle.elasticlunr_piece_head.proofs.choice.range_for.Goals as goal
use Rattle.elasticlunr_piece_head.proofs.choice.range_for.Goals.{then-expand, else-expand}

pub returns : goal.returns
returns c sorted number =
    let splits = c.count_up_to-after.ensures sorted in
    chosen (bytes_of c.args.firsts.now) (string_bytes c.args.token.now) c.count_up_to-after.result c.args.expand
    c.saturating_sub.result c.if-expand.end c.saturating_sub.ensures splits sorted
    (elim c.if-expand.branch [
      | then-expand w ↦ inl (
        w.if-expand.true,
        subst (Ends (bytes_of c.args.firsts.now) (string_bytes c.args.token.now) c.count_up_to-after.result)
            (sym w.end-is)
            (subst (λ b. Ends (bytes_of c.args.firsts.now) b c.count_up_to-after.result w.end_of_longer-end.result)
            w.as_str.ensures.value
            (w.end_of_longer-end.ensures (omega (arith, splits.within, length-map c.args.firsts.now string_bytes)))),
      )
      | else-expand w ↦ inr (w.if-expand.false, w.end-is)
    ]) number
