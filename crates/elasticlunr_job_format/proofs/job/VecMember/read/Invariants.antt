use Rattle.std.proofs.Common.{◌≡◌, map, take}
use Rattle.serde_json.specs.View.{view}
use Rattle.elasticlunr_job_format.proofs.job.VecMember.read.Given as goal

-- the items so far are these members
abbrev pub invariant-loop-item : goal.invariant-loop-item
invariant-loop-item g l = map view (take l.item-index l.item-items) ≡ map g.T.Member.told l.members.items
