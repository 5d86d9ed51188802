use Rattle.std.proofs.Common.{◌≡◌, take, true}
use Rattle.elasticlunr.specs.Fields.{all_differ, borrowed}
use Rattle.elasticlunr_input.proofs.jobs.second_of.Given as goal

-- the fields so far have names that differ
abbrev pub invariant-loop-number : goal.invariant-loop-number
invariant-loop-number l = all_differ (borrowed (take l.number l.fn.fields)) ≡ true
