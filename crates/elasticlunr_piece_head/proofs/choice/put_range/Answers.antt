use Rattle.std.proofs.Common.{arith, inr}
use Rattle.elasticlunr_piece_head.proofs.Numbers.{range_all, range_more}
use Rattle.elasticlunr_piece_head.proofs.choice.put_range.Goals as goal

pub loop-number-preserved : goal.loop-number-preserved
loop-number-preserved c = (
  range_more c.args.numbers.now c.loop-number.numbers c.insert.new.self c.args.range.from c.loop-number.number
      c.loop-number.auto.number c.in_ok-insert.ensures.updates c.loop-number.invariant.0,
  inr (omega (arith, c.loop-number-test.true)),
)

pub returns : goal.returns
returns c = range_all c.args.numbers.now c.loop-number.numbers c.args.range.from c.args.range.end c.loop-number.number
    c.loop-number-test.false c.loop-number.invariant.1 c.loop-number.invariant.0
