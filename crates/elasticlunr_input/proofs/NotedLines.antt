-- What lines leave in the notes, of which a head was read before.
use Rattle.std.proofs.Common.{◌≡◌, ◌++◌, ◌∷◌, List, [], map, Option, None, Some, IfSome, sym, subst}
use Rattle.std.specs.Fmt.{option_append}
use Rattle.std.specs.List.{filter}
use Rattle.serde_json.specs.Data.{Data}
use Rattle.elasticlunr_text.specs.Text.{Bytes}
use Rattle.elasticlunr_job_format.specs.LineRead.{AreAll}
use Rattle.elasticlunr_job_format.specs.Lines.{AreLineValues, is_filled}
use Rattle.elasticlunr_job_format.specs.Objects.{Options}
use Rattle.elasticlunr_job_format.specs.Reading.{reading}
use Rattle.elasticlunr_documents.specs.declared.lines.LastLine.{LastLine}
use Rattle.elasticlunr_diagnostics.specs.declared.form.Form.TheVariants.{Lines}
use Rattle.elasticlunr_input.specs.Asked.{options_of}
use Rattle.elasticlunr_input.specs.Inputs.{IsHeadOf}
use Rattle.elasticlunr_input.specs.NotedAll.{AreNotedLines, AreNotedObjects, HasBegun}
use Rattle.elasticlunr_input.specs.NotedFrom.{IsNotedAs}
use Rattle.elasticlunr_input.specs.Settled.{Settings}
use Rattle.elasticlunr_input.specs.declared.notes.Notes.{Notes}
use Rattle.elasticlunr_input.proofs.HeadLemmas.{first_begins}
use Rattle.elasticlunr_input.proofs.LineLemmas.{first_options}

pub chained_noted : (head : Bytes) (left : Option Bytes) (settings : Settings) (options : Options) (first : List Data)
    (last : LastLine) (old begun new : Notes)
    → map Some first ≡ map reading (filter is_filled (last.text.items ∷ [])) → options ≡ options_of settings first
    → HasBegun settings options old begun
    → (text : Bytes) × AreAll (option_append (Some head) left) text × AreNotedLines options text begun new
    → IfSome left (λ rest. IsHeadOf head rest last.text.items last.before
    → IsNotedAs Lines settings (head ++ rest) old new)
chained_noted head None settings options first last old begun new are told has is = tt
chained_noted head (Some rest) settings options first last old begun new are told has is = λ is_head.
    let begins = first_begins head rest last.text.items last.before is_head first are in
    let lines = is.2 in
    let values : AreLineValues (head ++ rest) lines.0 = subst (λ t. AreLineValues t lines.0) (sym is.1) lines.1 in
    let same = first_options settings (head ++ rest) options first begins told lines.0 values in (
      lines.0,
      values,
      subst (λ o. AreNotedObjects settings o lines.0 old new) same (begun, has, lines.2, lines.3, lines.4),
    )
