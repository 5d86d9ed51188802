use Rattle.std.proofs.Common.{◌≡◌, ◌≤◌, ◌+◌, ◌||◌, ℕ, length, min, take}
use Rattle.elasticlunr_job_format.specs.ObjectsTold.{texts_told}
use Rattle.elasticlunr_input.specs.Noted.{all_too_long, has_value, HasSameLimits, is_only_stored}
use Rattle.elasticlunr_input.specs.Warnings.{has_text}
use Rattle.elasticlunr_input.proofs.notes.Notes.values.Given as goal

-- the values so far were taken, and all else is as it was
abbrev pub invariant-loop-field : goal.invariant-loop-field
invariant-loop-field l = record {
  warnings : l.self.warnings ≡ l.fn.self.warnings;
  references : l.self.references ≡ l.fn.self.references;
  taken : l.self.taken ≡ l.fn.self.taken;
  known : l.self.known ≡ l.fn.self.known;
  limits : HasSameLimits l.fn.self l.self;
  filled : l.field ≤ length l.self.has_text.items;
  texts : (number : ℕ) → has_text l.self number
      ≡ (has_text l.fn.self number || has_value (take l.field (texts_told l.values)) number);
  words : l.self.longer ≡ min (l.fn.self.longer + all_too_long l.fn.self.longest (is_only_stored l.fn.self)
      (take l.field (texts_told l.values))) 18446744073709551615;
}
