use Rattle.std.proofs.Common.{◌≡◌, length, map, take}
use Rattle.std.specs.List.{flat_map}
use Rattle.elasticlunr.specs.Fields.{borrowed}
use Rattle.elasticlunr_text.specs.Text.{texts_of}
use Rattle.elasticlunr_job.specs.Given.{AreGiven}
use Rattle.elasticlunr_job.proofs.kept.values_with.Given as goal

-- the values so far, and the place after their words
abbrev pub invariant-loop-i : goal.invariant-loop-i
invariant-loop-i l = record {
  so_far : AreGiven (borrowed (take l.i l.values)) (map (λ list. texts_of list.items) l.kept) l.given.items;
  after : l.start ≡ length (flat_map (λ list. texts_of list.items) (take l.i l.kept));
}
