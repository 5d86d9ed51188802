use Rattle.std.proofs.Common.{◌≡◌, ◌==◌, [], count_by}
use Rattle.std.specs.Io.KnownBytes.{Consumes}
use Rattle.elasticlunr_job_format.specs.LineRead.{AreWhole}
use Rattle.elasticlunr_job_format.specs.Lines.{filled_lines}
use Rattle.elasticlunr_input.proofs.lines.read_head.Given as goal

-- the lines so far are blank
abbrev pub invariant-lines : goal.invariant-lines
invariant-lines g l = record {
  taken : Consumes (g.R.Read.remaining l.fn.reader) (g.R.Read.remaining l.reader) l.head.items;
  whole : AreWhole l.head.items;
  blank : filled_lines l.head.items ≡ [];
  feeds : l.before ≡ count_by (λ b. b == 10) l.head.items;
}
