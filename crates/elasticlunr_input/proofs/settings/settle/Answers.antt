use Rattle.std.proofs.Common.{◌≡◌, Bool, true, false, not, if◌then◌else◌, refl, sym, ◌∙◌}
use Rattle.elasticlunr_input.proofs.settings.settle.Goals as goal
use Rattle.elasticlunr_input.proofs.settings.settle.Goals.{then-job, else-job, then-job-2, else-job-2}

saved : (own drops : Bool) → own ≡ true → not drops ≡ (if drops then false else own)
saved own true is = refl
saved own false is = sym is

unsaved : (own drops : Bool) → own ≡ false → false ≡ (if drops then false else own)
unsaved own true is = refl
unsaved own false is = sym is

own_pretty : (own given : Bool) → own ≡ true → true ≡ (if given then true else own)
own_pretty own true is = refl
own_pretty own false is = sym is

given_pretty : (own given : Bool) → own ≡ false → given ≡ (if given then true else own)
given_pretty own true is = refl
given_pretty own false is = sym is

pub returns : goal.returns
returns c named =
    let save : c.if-job.result ≡ (if c.args.settings.now.drops_texts then false else c.args.job.save) =
    elim c.if-job.branch [
      | then-job w ↦ w.result-is ∙ saved _ _ w.if-job.true
      | else-job w ↦ w.result-is ∙ w.if-job.false ∙ unsaved _ _ w.if-job.false
    ] in
    let pretty : c.if-job-2.result ≡ (if c.args.settings.now.pretty then true else c.args.job.pretty) =
    elim c.if-job-2.branch [
      | then-job-2 w ↦ w.result-is ∙ w.if-job-2.true ∙ own_pretty _ _ w.if-job-2.true
      | else-job-2 w ↦ w.result-is ∙ given_pretty _ _ w.if-job-2.false
    ] in
    rw (c.in_ok-job_fields.ensures, named, c.text_or.ensures, save, pretty) refl
