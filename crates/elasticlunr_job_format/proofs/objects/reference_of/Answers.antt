use Rattle.std.proofs.Common.{◌≡◌, ℕ, Some, option_and_then, sym, ap, ◌∙◌}
use Rattle.std.specs.Fmt.{decimal}
use Rattle.serde_json.specs.Data.{Data, null, boolean, number, string, array, object, unsigned, negative, float}
use Rattle.serde_json.specs.Find.{as_number, as_u64}
use Rattle.elasticlunr_job_format.specs.Objects.{reference_of}
use Rattle.elasticlunr_job_format.proofs.objects.reference_of.Goals as goal

-- a whole number is a reference
whole : (d : Data) (n : ℕ) → Some n ≡ option_and_then as_u64 (as_number d) → reference_of d ≡ Some (decimal n)
whole null n is = cc (is)
whole (boolean b) n is = cc (is)
whole (number (unsigned m)) n is =
    let same : m ≡ n = cc in
    ap (λ k. Some (decimal k)) same
whole (number (negative z)) n is = cc (is)
whole (number (float x)) n is = cc (is)
whole (string s) n is = cc (is)
whole (array ds) n is = cc (is)
whole (object ms) n is = cc (is)

pub returns-in_ok-format-in-Some-as_u64 : goal.returns-in_ok-format-in-Some-as_u64
returns-in_ok-format-in-Some-as_u64 c = ap Some c.in_ok-format-in-Some-as_u64.ensures.ok
    ∙ sym (whole _ c.in-Some-as_u64.n c.in-Some-as_u64.ensures)
