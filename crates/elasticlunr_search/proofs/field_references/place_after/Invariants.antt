use Rattle.std.proofs.Common.{◌<◌, ◌-◌, length}
use Rattle.elasticlunr_search.proofs.field_references.place_after.Given as goal

abbrev pub invariant-parts : goal.invariant-parts
invariant-parts l = 0 < l.width

abbrev pub decreases-parts : goal.decreases-parts
decreases-parts l = length l.references - l.begin
