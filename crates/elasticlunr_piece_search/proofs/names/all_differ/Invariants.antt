use Rattle.std.proofs.Common.{◌≡◌, length}
use Rattle.elasticlunr_error.specs.Text.{bytes_of}
use Rattle.elasticlunr_commands.specs.Fields.{all_differ}
use Rattle.elasticlunr_piece_search.proofs.names.all_differ.Given as goal

-- those that are left decide
abbrev pub invariant-names : goal.invariant-names
invariant-names l = all_differ (bytes_of l.names) ≡ all_differ (bytes_of l.rest)

abbrev pub decreases-names : goal.decreases-names
decreases-names l = length l.rest
