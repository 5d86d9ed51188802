use Rattle.std.proofs.Common.{◌≡◌, map, drop, string_bytes}
use Rattle.elasticlunr_error.specs.Text.{is_listed}
use Rattle.elasticlunr_pieces.proofs.titles.is_listed.Given as goal

-- the names that are left decide
abbrev pub invariant-loop-other : goal.invariant-loop-other
invariant-loop-other l = is_listed l.name (map string_bytes l.names)
    ≡ is_listed l.name (map string_bytes (drop l.other-index l.names))
