use Rattle.std.proofs.Common.{Some, None, Bor, List, ℕ, option_map, sym, ap, ◌∙◌, true≢false}
use Rattle.serde_json.specs.View.{view}
use Rattle.elasticlunr_json_place.proofs.Members.{value_is}
use Rattle.elasticlunr_job_format.proofs.Readings.{reading_some, reading_none}
use Rattle.elasticlunr_json_place.proofs.member.value_in.Goals as goal

pub returns-in-Ok : goal.returns-in-Ok
returns-in-Ok c =
    value_is c.args.line c.args.text.now c.in-Some.part.now (Some (view c.in-Ok.value))
    (ap (option_map (λ (b : Bor (List ℕ)). b.now)) (sym c.in-Some.is) ∙ c.in_ok-part.ensures)
    (reading_some _ _ c.in-Ok.ensures.ok.0 c.in-Ok.ensures.ok.1)

pub returns-in-Err-2 : goal.returns-in-Err-2
returns-in-Err-2 c =
    value_is c.args.line c.args.text.now c.in-Some.part.now None
    (ap (option_map (λ (b : Bor (List ℕ)). b.now)) (sym c.in-Some.is) ∙ c.in_ok-part.ensures)
    (reading_none _ (c.in-Err.ensures.err (λ m. true≢false (sym (c.is_memory.ensures.1 m) ∙ c.if-is_memory.false))))
