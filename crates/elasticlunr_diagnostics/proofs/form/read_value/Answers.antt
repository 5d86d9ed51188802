use Rattle.std.proofs.Common.{sym, ◌∙◌, true≢false}
use Rattle.elasticlunr_job_format.proofs.Readings.{reading_some, reading_none}
use Rattle.elasticlunr_diagnostics.proofs.form.read_value.Goals as goal

pub returns-in-Ok-clause-ok : goal.returns-in-Ok-clause-ok
returns-in-Ok-clause-ok c = reading_some _ _ c.in-Ok.ensures.ok.0 c.in-Ok.ensures.ok.1

pub returns-in_ok-not_json-in-Err-2-clause-err : goal.returns-in_ok-not_json-in-Err-2-clause-err
returns-in_ok-not_json-in-Err-2-clause-err c =
    reading_none _ (c.in-Err.ensures.err (λ m. true≢false (sym (c.is_memory.ensures.1 m) ∙ c.if-is_memory.false)))
