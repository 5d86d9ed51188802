use Rattle.std.proofs.Common.{◌<◌, ◌≤◌, length}
use Rattle.std.specs.Prelude.{◌↔◌}
use Rattle.serde_json.specs.Read.{max_depth}
use Rattle.elasticlunr_search.specs.Levels.{levels, most_open}
use Rattle.elasticlunr_search.proofs.levels.nests_deeper.Given as goal

-- so far no more are open, so that the text nests deeper if what is left does
abbrev pub invariant-tokens : goal.invariant-tokens
invariant-tokens l = (l.depth ≤ max_depth) × ((max_depth < levels l.fn.text) ↔ (max_depth < most_open l.depth l.reader))

abbrev pub decreases-tokens : goal.decreases-tokens
decreases-tokens l = length l.reader
