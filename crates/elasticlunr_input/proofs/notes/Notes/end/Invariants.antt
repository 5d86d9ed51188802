use Rattle.std.proofs.Common.{◌≡◌, ◌++◌, take}
use Rattle.elasticlunr_job_format.specs.ObjectsTold.{texts_told}
use Rattle.elasticlunr_input.specs.Noted.{HasSameWords}
use Rattle.elasticlunr_input.specs.Warnings.{fields_warnings, has_text, warnings_of}
use Rattle.elasticlunr_input.proofs.notes.Notes.end.Given as goal

-- the warnings of the fields so far
abbrev pub invariant-loop-number : goal.invariant-loop-number
invariant-loop-number l = record {
  warned : warnings_of l.self ≡ warnings_of l.fn.self
      ++ fields_warnings (has_text l.fn.self) (take l.number (texts_told l.fn.fields));
  seen : l.self.has_text ≡ l.fn.self.has_text;
  words : HasSameWords l.fn.self l.self;
}
