use Rattle.std.proofs.Common.{◌-◌, string_bytes}
use Rattle.elasticlunr_pieces.specs.Steps.{Extends}
use Rattle.elasticlunr_pieces.proofs.cut.extend.Given as goal

abbrev pub invariant-loop-next : goal.invariant-loop-next
invariant-loop-next g l = Extends (g.E.Entries.texts l.entries) l.form l.fn.from l.next
    (string_bytes l.fn.text) (string_bytes l.text)

abbrev pub decreases-loop-next : goal.decreases-loop-next
decreases-loop-next g l = l.count - l.next
