-- What is said of an index that is made, and what follows of it.
use Rattle.std.proofs.Common.{Bool, List, Option, None, Some, IfSome}
use Rattle.serde_json.specs.Data.{Data}
use Rattle.elasticlunr_text.specs.Text.{Bytes}
use Rattle.elasticlunr.specs.History.{Commands}
use Rattle.elasticlunr.specs.Standing.{Plan}
use Rattle.elasticlunr_lang.specs.declared.any.AnyLanguage.{AnyLanguage}
use Rattle.elasticlunr_job.specs.Answer.{IsMadeBy, IsMadeInBy, OfIndex}
use Rattle.elasticlunr_job_format.specs.Job.{Job}
use Rattle.elasticlunr_job_format.specs.Objects.{Options}
use Rattle.elasticlunr_job_format.specs.Rules.{WordRules}
use Rattle.elasticlunr_documents.specs.Objects.{IsMadeOfObjects}
use Rattle.elasticlunr_diagnostics.specs.declared.form.Form.{Form}
use Rattle.elasticlunr_diagnostics.specs.declared.form.Form.TheVariants as form
use Rattle.elasticlunr_input.specs.Indexes.{IsMadeAs}
use Rattle.elasticlunr_input.specs.Settled.{Settings}

module _ (P Q : OfIndex) (more : (pretty : Bool) (plan : Plan) (commands : Commands) → P pretty plan commands
    → Q pretty plan commands) where
  in_more : (rules : Option WordRules) (job : Job) (language : AnyLanguage) → IsMadeInBy rules job language P
      → IsMadeInBy rules job language Q
  in_more rules job language made = record {
    commands = made.commands;
    are_commands = made.are_commands;
    is = more _ _ made.commands made.is;
  }

  of_more : (rules : Option WordRules) (job : Job) → IsMadeBy rules job P → IsMadeBy rules job Q
  of_more rules job made = (made.0, made.1, in_more rules job made.0 made.2)

  objects_more : (options : Options) (items : List Data) → IsMadeOfObjects options items P
      → IsMadeOfObjects options items Q
  objects_more options items made = (made.0, made.1, of_more _ _ made.2)

  made_more : (kind : Form) (settings : Settings) (text : Bytes) → IsMadeAs kind settings text P
      → IsMadeAs kind settings text Q
  made_more form.Job settings text made = (made.0, made.1, (made.2.0, made.2.1, of_more _ _ made.2.2))
  made_more form.Objects settings text made = (made.0, made.1, (made.2.0, made.2.1, objects_more _ _ made.2.2))
  made_more form.Lines settings text made = (made.0, made.1, objects_more _ _ made.2)

  -- where the bytes of a reader are known
  pub if_made : (bytes : Option Bytes) (kind : Bytes → Form) (settings : Settings) (read : Bytes → Bytes)
      → IfSome bytes (λ text. IsMadeAs (kind (read text)) settings (read text) P)
      → IfSome bytes (λ text. IsMadeAs (kind (read text)) settings (read text) Q)
  if_made None kind settings read made = tt
  if_made (Some text) kind settings read made = made_more (kind (read text)) settings (read text) made
