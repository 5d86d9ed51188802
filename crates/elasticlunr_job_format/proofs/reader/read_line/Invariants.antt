use Rattle.std.specs.Io.KnownBytes.{Consumes}
use Rattle.elasticlunr_job_format.specs.LineRead.{HasNoFeed}
use Rattle.elasticlunr_job_format.proofs.reader.read_line.Given as goal

-- the parts so far have no line feed
abbrev pub invariant-parts : goal.invariant-parts
invariant-parts g l = record {
  taken : Consumes (g.R.Read.remaining l.fn.reader) (g.R.Read.remaining l.reader) l.line.items;
  no_feed : HasNoFeed l.line.items;
}
