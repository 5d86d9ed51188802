use Rattle.std.proofs.Common.{arith, string_bytes}
use Rattle.elasticlunr_search.proofs.Joined.{next_line, all_lines}
use Rattle.elasticlunr_search.proofs.answer.lines_of.Goals as goal

pub loop-reference-preserved : goal.loop-reference-preserved
unfolding lib.Utf8.encode
loop-reference-preserved c = next_line c.args.references.now c.loop-reference.reference-index c.reference-item.result
    c.as_str.result.now (string_bytes c.loop-reference.text) (string_bytes c.push_str.new.self)
    (string_bytes c.push.new.self)
    (omega arith) c.reference-item.is c.as_str.ensures.value c.loop-reference.invariant c.in_ok-push_str.ensures.bytes
    c.in_ok-push.ensures.bytes

pub returns : goal.returns
returns c = all_lines c.args.references.now c.loop-reference.reference-index (string_bytes c.loop-reference.text)
    c.loop-reference-test.false c.loop-reference.invariant
