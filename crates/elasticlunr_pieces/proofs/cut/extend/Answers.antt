use Rattle.std.proofs.Common.{rules, string_bytes, arith}
use Rattle.elasticlunr_pieces.proofs.Growing.{nothing_yet, one_more}
use Rattle.elasticlunr_pieces.proofs.cut.extend.Goals as goal

pub loop-next-init : goal.loop-next-init
loop-next-init g c = nothing_yet _ _ _ _

pub loop-next-preserved : goal.loop-next-preserved
loop-next-preserved g c = one_more (g.E.Entries.texts c.args.entries.now) c.args.form c.args.from c.loop-next.next
    (string_bytes c.args.text.now) (string_bytes c.loop-next.text) (string_bytes c.push_str.new.self)
    (string_bytes c.push_str-in-loop-next.new.self) (string_bytes c.in_ok-entry.entry) c.loop-next.invariant
    (omega arith) c.in_ok-entry.ensures c.in_ok-push_str.ensures.bytes
    (search rules) (omega arith)
