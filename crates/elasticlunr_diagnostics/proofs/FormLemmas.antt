-- On the form of an input.
use Rattle.std.proofs.Common.{◌≡◌, false, Option, option_map, unwrap_or, if◌then◌else◌, ap, ◌∙◌}
use Rattle.serde_json.specs.Data.{Data}
use Rattle.elasticlunr_text.specs.Text.{Bytes}
use Rattle.elasticlunr_job_format.specs.Reading.{reading}
use Rattle.elasticlunr_diagnostics.specs.Forms.{begins_an_array, line_form, value_form}
use Rattle.elasticlunr_diagnostics.specs.declared.form.Form.TheVariants.{Job, Objects}

-- what a line tells that begins no array
pub line_tells : (line : Bytes) (o : Option Data) → begins_an_array line ≡ false → reading line ≡ o → line_form line
    ≡ unwrap_or (option_map value_form o) Job
line_tells line o begins is =
    ap (λ b. if b then Objects else unwrap_or (option_map value_form (reading line)) Job) begins
    ∙ ap (λ d. unwrap_or (option_map value_form d) Job) is
