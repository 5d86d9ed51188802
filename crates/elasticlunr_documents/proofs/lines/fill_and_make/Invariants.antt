use Rattle.std.proofs.Common.{◌≡◌, ◌≤◌, ◌==◌, count_by}
use Rattle.std.specs.Io.KnownBytes.{Consumes}
use Rattle.elasticlunr_text.specs.Text.{Bytes}
use Rattle.elasticlunr.specs.Index.{SameSettings, StandsFor}
use Rattle.elasticlunr_lang.specs.Known.{language_name}
use Rattle.elasticlunr_job.specs.Commands.{language_tokens}
use Rattle.elasticlunr_job.specs.Filled.{IsMadeUnder}
use Rattle.elasticlunr_job_format.specs.LineRead.{AreWhole}
use Rattle.elasticlunr_job_format.specs.ObjectsTold.{options_told}
use Rattle.elasticlunr_documents.specs.Seen.{SawLines}
use Rattle.elasticlunr_documents.proofs.ReadLines.{Added}
use Rattle.elasticlunr_documents.proofs.lines.fill_and_make.Given as goal

-- the lines so far were read and added
abbrev pub invariant-lines : goal.invariant-lines
invariant-lines g l = record {
  text : Bytes;
  taken : Consumes (g.R.Read.remaining l.fn.reader) (g.R.Read.remaining l.reader) text;
  whole : AreWhole text;
  feeds : l.before ≡ count_by (λ b. b == 10) text;
  added : Added (options_told l.fn.options) text l.number
      (IsMadeUnder (options_told l.fn.options).rules (options_told l.fn.options).fields language_tokens
      (λ z. (goal.PipelineFn-dyn g z).leaves z.1) l.fn.index)
      (StandsFor language_name (λ z. (goal.PipelineFn-dyn g z).name_text z.1) l.fn.index)
      (StandsFor language_name (λ z. (goal.PipelineFn-dyn g z).name_text z.1) l.index);
  seen : SawLines g.W.Watch.sees (options_told l.fn.options) text l.fn.watch l.watch;
  settings : SameSettings l.fn.index l.index;
  within : l.number ≤ l.before;
}
