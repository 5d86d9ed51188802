-- no name before this one is free
use Rattle.std.proofs.Common.{◌≡◌, ◌+◌, ◌-◌, ◌≤◌, None, length, map, not}
use Rattle.std.specs.List.{find, range_with_len}
use Rattle.elasticlunr.specs.Fields.{borrowed, has_name}
use Rattle.elasticlunr_input.specs.References.{numbered_name}
use Rattle.elasticlunr_input.proofs.references.free_name.Given as goal

abbrev pub invariant-loop-number : goal.invariant-loop-number
invariant-loop-number l = record {
  low : 1 ≤ l.number;
  high : l.number ≤ length l.fields + 2;
  none : find (λ name. not (has_name name (borrowed l.fields)))
      (map numbered_name (range_with_len 1 (l.number - 1))) ≡ None;
}
