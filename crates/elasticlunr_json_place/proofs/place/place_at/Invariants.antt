use Rattle.std.proofs.Common.{◌≡◌}
use Rattle.elasticlunr_json_place.specs.Places.{column_at, line_at}
use Rattle.elasticlunr_json_place.proofs.place.place_at.Given as goal

-- the place of the bytes so far
abbrev pub invariant-loop-byte : goal.invariant-loop-byte
invariant-loop-byte l = record {
  line : l.line ≡ line_at l.before l.byte-index;
  column : l.column
      ≡ column_at l.before l.byte-index;
}
