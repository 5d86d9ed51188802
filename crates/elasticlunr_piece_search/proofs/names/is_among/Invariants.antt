use Rattle.std.proofs.Common.{◌≡◌, drop}
use Rattle.elasticlunr_error.specs.Text.{bytes_of}
use Rattle.elasticlunr_commands.specs.Fields.{has_name}
use Rattle.elasticlunr_piece_search.proofs.names.is_among.Given as goal

-- the names that are left decide
abbrev pub invariant-loop-other : goal.invariant-loop-other
invariant-loop-other l = has_name l.name (bytes_of l.names) ≡ has_name l.name (bytes_of (drop l.other-index l.names))
