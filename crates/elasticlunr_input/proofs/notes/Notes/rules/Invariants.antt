use Rattle.std.proofs.Common.{◌≡◌, ◌++◌, map, take}
use Rattle.elasticlunr_job_format.specs.ObjectsTold.{texts_told}
use Rattle.elasticlunr_text.specs.Text.{bytes_of, is_listed}
use Rattle.elasticlunr_input.specs.Noted.{HasSameSeen}
use Rattle.elasticlunr_input.proofs.notes.Notes.rules.Given as goal

-- the fields so far are only stored or not
abbrev pub invariant-loop-field : goal.invariant-loop-field
invariant-loop-field l = record {
  stored : l.self.is_stored.items ≡ l.fn.self.is_stored.items
      ++ map (λ field. is_listed field (bytes_of l.rules.stored.items)) (take l.field-index (texts_told l.fields));
  longest : l.self.longest ≡ l.rules.longest;
  seen : HasSameSeen l.fn.self l.self;
  known : l.self.known ≡ l.fn.self.known;
}
