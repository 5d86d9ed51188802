use Rattle.std.proofs.Common.{◌++◌, [], false, unwrap_or, slice_get, sym, ap, ◌∙◌, append-nil, append_assoc, refl, get_or, take}
use Rattle.elasticlunr_job_format.specs.ObjectsTold.{texts_told}
use Rattle.elasticlunr_input.specs.Warnings.{fields_warnings, has_text, property_warnings, textless_warnings, warnings_of}
use Rattle.elasticlunr_input.proofs.Noting.{same_words}
use Rattle.elasticlunr_input.proofs.Warned.{fields_step}
use Rattle.elasticlunr_input.proofs.notes.Notes.end.Goals as goal

pub loop-number-init : goal.loop-number-init
loop-number-init c = record {
  warned = sym (append-nil (warnings_of c.args.self.now));
  seen = refl;
  words = (refl, refl, (refl, refl, refl, refl));
}

pub loop-number-preserved : goal.loop-number-preserved
loop-number-preserved c =
    let so_far = c.loop-number.invariant in
    let old = c.args.self.now in
    let fields = c.args.fields.now in
    let number = c.loop-number.number in
    let name = (get_or fields number (record { ref_ptr = (0, 0); now = [] })).now in
    let its = textless_warnings (has_text old number) name ++ property_warnings name in
    record {
      warned = c.in_ok-field.ensures.warnings
          ∙ (ap (λ seen. warnings_of c.loop-number.self
          ++ (textless_warnings (unwrap_or (slice_get seen.items number) false) name ++ property_warnings name)) so_far.seen
          ∙ (ap (λ ws. ws ++ its) so_far.warned
          ∙ (append_assoc (warnings_of old) (fields_warnings (has_text old) (take number (texts_told fields))) its
          ∙ ap (λ ws. warnings_of old ++ ws) (sym (fields_step (has_text old) fields number
          (record { ref_ptr = (0, 0); now = [] }) c.loop-number-test.true)))));
      seen = c.field.ensures.seen ∙ so_far.seen;
      words = same_words c.args.self.now c.loop-number.self c.field.new.self so_far.words c.field.ensures.words;
    }
