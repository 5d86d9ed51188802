use Rattle.std.proofs.Common.{sym, arith}
use Rattle.elasticlunr_text.proofs.RangeLemmas.{in_ranges-first, in_ranges-below, ends_below-more}
use Rattle.elasticlunr_text.proofs.lang.common.ranges.Ranges.contains_early.Goals as goal

pub loop-range-init : goal.loop-range-init
loop-range-init c = λ k r less. absurd (omega (arith, less))

pub returns-then-code-range : goal.returns-then-code-range
returns-then-code-range c =
    sym (in_ranges-first c.as_slice-range-items.result.now c.args.self.now.ranges.items c.loop-range.range-index
    c.args.code c.as_slice-range-items.ensures.value
    c.args.self.now.apart c.loop-range.invariant c.loop-range-test.true c.if-code-range.true)

pub loop-range-preserved : goal.loop-range-preserved
loop-range-preserved c =
    ends_below-more c.as_slice-range-items.result.now c.args.self.now.ranges.items c.loop-range.range-index c.args.code
    c.as_slice-range-items.ensures.value
    c.loop-range.invariant c.loop-range-test.true c.if-code-range.false

pub returns : goal.returns
returns c = sym (in_ranges-below c.args.self.now.ranges.items c.args.code
    (λ k r within. c.loop-range.invariant k r
    (omega (arith, within, c.loop-range-test.false, c.as_slice-range-items.ensures.len))))
