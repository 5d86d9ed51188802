use Rattle.std.proofs.Common.{◌≡◌, ℕ, Option, None, Some, not, option_map, refl, ◌∙◌, rules, tests}
use Rattle.std.proofs.lemmas.Iterator.{YieldsList-from_slice}
use Rattle.std.proofs.lemmas.Iterator.Consumers.{YieldsList-from_copied}
use Rattle.std.proofs.lemmas.Iterator.Search.{find_from_yields_List}
use Rattle.elasticlunr_job_format.specs.Lines.{is_space}
use Rattle.elasticlunr_diagnostics.proofs.form.first_byte.Goals as goal

as_it_is : (o : Option ℕ) → o ≡ option_map (λ b. b) o
as_it_is None = refl
as_it_is (Some b) = refl

pub returns : goal.returns
returns c =
    as_it_is c.find.result
    ∙ find_from_yields_List (λ b. not (is_space b)) _ _ c.find.result c.find.ensures.ran
    (YieldsList-from_copied (YieldsList-from_slice c.args.line.now cc)) (λ x r q k. search (rules, tests))
