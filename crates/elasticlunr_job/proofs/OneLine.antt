-- A job has one line in a language.
use Rattle.std.proofs.Common.{◌≡◌, List, sym, ap, subst, ◌∙◌}
use Rattle.serde_json.specs.Data.{Data}
use Rattle.elasticlunr_text.specs.Text.{Bytes}
use Rattle.elasticlunr_lang.specs.Known.{language_leaves}
use Rattle.elasticlunr_lang.specs.declared.any.AnyLanguage.{AnyLanguage}
use Rattle.elasticlunr.specs.Calls.{HasOneDocument, followed_by}
use Rattle.elasticlunr.specs.Documents.{IsDocument}
use Rattle.elasticlunr.specs.History.{Commands, none}
use Rattle.elasticlunr.specs.Printed.{IsValue}
use Rattle.elasticlunr.specs.Reading.{LanguageReads}
use Rattle.elasticlunr.specs.Standing.{Plan}
use Rattle.elasticlunr.proofs.Calling.{one_zip}
use Rattle.elasticlunr_job.specs.Answer.{IsMadeIn, IsPrintedLine, line, printed_text}
use Rattle.elasticlunr_job.specs.Commands.{IsAdded, in_order, job_plan, language_tokens}
use Rattle.elasticlunr_job_format.specs.Job.{Job}

-- settings and commands have one value
abbrev pub OneValue : Type 0
OneValue = (plan : Plan) (commands : Commands) (v w : Data) → IsValue plan commands v → IsValue plan commands w → v ≡ w

-- a language makes one document of a reference and values
abbrev pub OneDocument : Type 0
OneDocument = (fields : List Bytes) (reference_field : Bytes) (language : AnyLanguage)
    → HasOneDocument (IsDocument fields reference_field
    (LanguageReads (language_tokens language) (language_leaves language)))

pub one_line : OneValue → OneDocument → (job : Job) (language : AnyLanguage) (t u : Bytes) → IsMadeIn job language (IsPrintedLine t)
    → IsMadeIn job language (IsPrintedLine u) → t ≡ u
one_line values documents job language t u a b =
    let one = documents job.fields job.reference_field language in
    let same : a.are_commands.documents ≡ b.are_commands.documents =
    one_zip (IsAdded job language) (λ doc d e. one doc.reference doc.values d e) job.docs a.are_commands.documents
    b.are_commands.documents a.are_commands.each b.are_commands.each in
    let commands : a.commands ≡ b.commands = a.are_commands.whole
    ∙ (ap (λ ds. followed_by none (in_order job ds)) same ∙ sym b.are_commands.whole) in
    let value : a.is.0 ≡ b.is.0 = values (job_plan job language) b.commands a.is.0 b.is.0
    (subst (λ cs. IsValue (job_plan job language) cs a.is.0) commands a.is.1) b.is.1 in
    a.is.2 ∙ (ap (λ v. line (printed_text job.pretty v)) value ∙ sym b.is.2)
