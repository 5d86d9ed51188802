use Rattle.std.proofs.Common.{None, sym, ◌∙◌, true≢false}
use Rattle.elasticlunr_job_format.proofs.Readings.{reading_some, reading_none}
use Rattle.elasticlunr_diagnostics.proofs.FormLemmas.{line_tells}
use Rattle.std.proofs.Common.{rules}
use Rattle.elasticlunr_diagnostics.proofs.form.line_form.Goals as goal

pub returns-in-Ok : goal.returns-in-Ok
returns-in-Ok c =
    c.value_form.ensures ∙ sym (line_tells c.args.line.now _ (sym c.begins_an_array.ensures
    ∙ c.if-begins_an_array.false) (reading_some _ _ c.in-Ok.ensures.ok.0 c.in-Ok.ensures.ok.1))

pub returns-in-Err-2 : goal.returns-in-Err-2
returns-in-Err-2 c =
    sym (line_tells c.args.line.now None (sym c.begins_an_array.ensures ∙ c.if-begins_an_array.false)
    (reading_none _ (c.in-Err.ensures.err
    (λ m. true≢false (sym (c.is_memory.ensures.1 m) ∙ c.if-is_memory.false)))))

pub returns-then-begins_an_array : goal.returns-then-begins_an_array
returns-then-begins_an_array c = search rules
