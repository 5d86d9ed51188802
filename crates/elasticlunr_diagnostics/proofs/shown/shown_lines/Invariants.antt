-- the characters so far as they are shown
use Rattle.std.proofs.Common.{◌≡◌, string_bytes}
use Rattle.std.specs.List.{flat_map}
use Rattle.elasticlunr_diagnostics.specs.Shown.{shown_in_lines}
use Rattle.elasticlunr_diagnostics.proofs.shown.shown_lines.Given as goal

abbrev pub invariant-loop-c : goal.invariant-loop-c
invariant-loop-c l = string_bytes l.lines ≡ flat_map shown_in_lines l.yielded
