use Rattle.std.proofs.Common.{◌++◌, ap, ◌∙◌}
use Rattle.elasticlunr_job_format.specs.ObjectsTold.{options_told, texts_told}
use Rattle.elasticlunr_input.specs.Warnings.{end_warnings, warnings_of}
use Rattle.elasticlunr_input.proofs.NotingAll.{all_noted}
use Rattle.elasticlunr_input.proofs.SeenNotes.{saw_noted}
use Rattle.elasticlunr_input.proofs.lines.lines_made_of.Goals as goal

pub returns-in_ok-input_error_of-in-Err-clause-err : goal.returns-in_ok-input_error_of-in-Err-clause-err
returns-in_ok-input_error_of-in-Err-clause-err g c = c.in_ok-input_error_of-in-Err.ensures.refused _
    c.in-Err.ensures.err

pub returns-in_ok-end-in-Ok-clause-noted : goal.returns-in_ok-end-in-Ok-clause-noted
returns-in_ok-end-in-Ok-clause-noted g c =
    let options = options_told c.args.options.now in
    let old = c.args.notes.now in
    let mid = c.watched.new.notes in
    let seen = c.in-Ok.ensures.seen in
    let saw = seen.2 in
    let told = saw_noted options old mid saw.0 saw.1 saw.4 saw.3 in (
      seen.0,
      seen.1,
      (
        saw.0,
        saw.2,
        told.0,
        told.1,
        (
          mid,
          told.2,
          all_noted old mid c.end.new.self told.0 options.fields told.2
              (c.in_ok-end-in-Ok.ensures.warnings
              ∙ ap (λ fs. warnings_of mid ++ end_warnings mid (texts_told fs)) c.deref.ensures.value),
          c.end.ensures.words,
        ),
      ),
    )
