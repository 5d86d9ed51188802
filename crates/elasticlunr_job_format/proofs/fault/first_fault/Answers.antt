use Rattle.std.proofs.Common.{◌≡◌, ◌<◌, ◌≤◌, ◌+◌, ℕ, get_or, arith}
use Rattle.serde_json.specs.View.{view}
use Rattle.elasticlunr_job_format.specs.JobKeys.{key_place}
use Rattle.elasticlunr_job_format.specs.declared.fault.Fault.TheVariants.{Member, Missing}
use Rattle.elasticlunr_job_format.specs.declared.key.Key.{Key}
use Rattle.elasticlunr_job_format.specs.declared.key.Key.TheVariants.{Fields}
use Rattle.elasticlunr_job_format.proofs.JobFaults.{all_places, fault_no_job, first_member_fault, first_missing_fault}
use Rattle.elasticlunr_job_format.proofs.JobFaults.{if_none, job_from, place_in}
use Rattle.std.proofs.Common.{rules}
use Rattle.elasticlunr_job_format.proofs.fault.first_fault.Goals as goal

earlier : (a b i : ℕ) → a < b → b ≡ i + 1 → a ≤ i
earlier a b i lt is = omega arith

pub returns-in-Some-fault_under-clause-some : goal.returns-in-Some-fault_under-clause-some
returns-in-Some-fault_under-clause-some c =
    let key : Key = get_or c.keys_in_order-key-items.result c.loop-key.key-index Fields in
    let place : key_place key ≡ c.loop-key.key-index + 1 = place_in c.keys_in_order-key-items.result
    c.loop-key.key-index Fields c.keys_in_order-key-items.ensures c.loop-key-test.true in
    first_member_fault (view c.args.value.now) key c.in-Some-fault_under.fault c.in_default.ensures.none
    (λ k lt. c.loop-key.invariant k (earlier (key_place k) (key_place key) c.loop-key.key-index lt place))
    c.in-Some-fault_under.ensures.some

pub returns-in-Some-fault_under-clause-no_job : goal.returns-in-Some-fault_under-clause-no_job
returns-in-Some-fault_under-clause-no_job c =
    let key : Key = get_or c.keys_in_order-key-items.result c.loop-key.key-index Fields in
    fault_no_job (view c.args.value.now) (Member key c.in-Some-fault_under.fault) c.in-Some-fault_under.ensures.some

pub returns-in_err-key-clause-job : goal.returns-in_err-key-clause-job
returns-in_err-key-clause-job c = if_none c.from_residual.result
    (job_from (view c.args.value.now) c.in_default.ensures.none
    (all_places (view c.args.value.now) c.keys_in_order-key-items.result c.loop-key.key-index
    c.keys_in_order-key-items.ensures c.loop-key-test.false c.loop-key.invariant) c.in_err-key.ensures.none)

pub returns-clause-some : goal.returns-clause-some
returns-clause-some c = first_missing_fault (view c.args.value.now) c.in_ok-key.key c.in_default.ensures.none
    (all_places (view c.args.value.now) c.keys_in_order-key-items.result c.loop-key.key-index
    c.keys_in_order-key-items.ensures c.loop-key-test.false c.loop-key.invariant) c.in_ok-key.ensures.some

pub returns-clause-no_job : goal.returns-clause-no_job
returns-clause-no_job c = fault_no_job (view c.args.value.now) (Missing c.in_ok-key.key) (returns-clause-some c).has

pub returns-in-Some-clause-some : goal.returns-in-Some-clause-some
returns-in-Some-clause-some c = search rules

pub returns-in-Some-clause-no_job : goal.returns-in-Some-clause-no_job
returns-in-Some-clause-no_job c = search rules

pub loop-key-init : goal.loop-key-init
loop-key-init c = search rules

pub loop-key-preserved : goal.loop-key-preserved
loop-key-preserved c = search rules
