use Rattle.std.proofs.Common.{◌≡◌, Bool, true, is_some, refl, true≢false, sym}
use Rattle.serde_json.specs.Data.{Data, null, boolean, number, string, array, object}
use Rattle.serde_json.specs.Find.{as_bool}
use Rattle.elasticlunr_job_format.proofs.fault.member_fault.Goals as goal

-- a value that is a truth value
a_truth : (d : Data) → is_some (as_bool d) ≡ true → (truth : Bool) × (d ≡ boolean truth)
a_truth null none = absurd (true≢false (sym none))
a_truth (boolean b) some = (b, refl)
a_truth (number n) none = absurd (true≢false (sym none))
a_truth (string s) none = absurd (true≢false (sym none))
a_truth (array ds) none = absurd (true≢false (sym none))
a_truth (object ms) none = absurd (true≢false (sym none))

pub returns-in-Truth-clause-none : goal.returns-in-Truth-clause-none
returns-in-Truth-clause-none c = rw c.in-Truth.is (a_truth _ (cc))
