use Rattle.std.proofs.Common.{◌≡◌, ◌≤◌, false, drop, length}
use Rattle.elasticlunr_publish.specs.Heads.{is_listed, told_texts}
use Rattle.elasticlunr_publish.proofs.heads.end_of.Given as goal

abbrev pub invariant-loop-end : goal.invariant-loop-end
invariant-loop-end l = record {
  within : l.end ≤ length l.names;
  none : is_listed l.name (drop l.end (told_texts l.names)) ≡ false;
}

abbrev pub decreases-loop-end : goal.decreases-loop-end
decreases-loop-end l = l.end
