-- the characters so far as they are shown
use Rattle.std.proofs.Common.{◌≡◌, string_bytes}
use Rattle.std.specs.List.{flat_map}
use Rattle.elasticlunr_diagnostics.specs.Shown.{shown_char}
use Rattle.elasticlunr_diagnostics.proofs.shown.shown.Given as goal

abbrev pub invariant-loop-c : goal.invariant-loop-c
invariant-loop-c l = string_bytes l.line ≡ flat_map shown_char l.yielded
