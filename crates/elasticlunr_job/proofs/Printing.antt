-- What is printed of an index.
use Rattle.std.proofs.Common.{◌≡◌, Bool, Option, List, [], ◌∷◌, Result, Ok, Err, String, string_bytes, inl, refl, subst}
use Rattle.std.proofs.Common.{◌∙◌}
use Rattle.std.specs.List.{AllZip}
use Rattle.std.specs.Result.{IfOk}
use Rattle.std.specs.declared.alloc.Global.{Global}
use Rattle.serde_json.specs.Data.{Data}
use Rattle.elasticlunr_text.specs.Text.{Bytes}
use Rattle.elasticlunr_lang.specs.declared.any.AnyLanguage.{AnyLanguage}
use Rattle.elasticlunr.specs.History.{Agree, Commands, Document, none}
use Rattle.elasticlunr.specs.Printed.{IsValue, IsTextAfter}
use Rattle.elasticlunr.specs.Standing.{Plan}
use Rattle.elasticlunr_job.specs.Answer.{IsMadeInBy, OfIndex, printed_text}
use Rattle.elasticlunr.specs.Calls.{followed_by}
use Rattle.elasticlunr_job.specs.Commands.{IsAddedBy, in_order}
use Rattle.elasticlunr_job.specs.Filled.{IsBuiltFor}
use Rattle.elasticlunr_job.proofs.Taken.{HasDone}
use Rattle.elasticlunr_job_format.specs.Job.{Job}
use Rattle.elasticlunr_job_format.specs.Rules.{WordRules}

-- its text, of the commands that it represents
pub told_print : {E : Type 0} (r : Result (String Global) E) (Stands : Commands → Type 0) (plan : Plan) (pretty : Bool)
    (text_of : Data → Bytes) → ((value : Data) → text_of value ≡ printed_text pretty value)
    → IfOk r (λ text. (commands other : Commands) → Stands commands → Agree commands other → (value : Data)
    × IsValue plan other value × (string_bytes text ≡ text_of value))
    → IfOk r (λ text. (commands : Commands) → Stands commands → IsTextAfter (printed_text pretty) plan commands
    (string_bytes text))
told_print (Ok text) Stands plan pretty text_of same told = λ commands stands.
    (let print = told commands commands stands (inl refl) in (print.0, print.1, print.2 ∙ same print.0))
told_print (Err e) Stands plan pretty text_of same told = told

pub zip_more : {A B : Type 0} (P Q : A → B → Type 0) (xs : List A) (ys : List B) → ((x : A) (y : B) → P x y → Q x y)
    → AllZip P xs ys → AllZip Q xs ys
zip_more P Q [] [] f h = tt
zip_more P Q [] (y ∷ ys) f h = absurd h
zip_more P Q (x ∷ xs) [] f h = absurd h
zip_more P Q (x ∷ xs) (y ∷ ys) f h = (f x y h.0, zip_more P Q xs ys f h.1)

-- what holds of an index that was built for the job, and to which all was done
pub carried : (rules : Option WordRules) (job : Job) (language : AnyLanguage) (made : Bytes → List Bytes → Document → Type 0)
    (old new : Commands → Type 0) (before after : Plan) (Is : OfIndex) → after ≡ before
    → IsBuiltFor rules job language before made old → HasDone made old new job
    → ((commands : Commands) → new commands → Is job.pretty after commands) → IsMadeInBy rules job language Is
carried rules job language made old new before after Is same built done holds =
    let documents = done.documents in
    let commands = followed_by none (in_order job documents) in
    record {
      commands = commands;
      are_commands = record {
        documents = documents;
        each =
            zip_more (λ doc document. made doc.reference doc.values document) (IsAddedBy rules job language) job.docs documents
            built.adds done.each;
        whole = refl;
      };
      is = subst (λ plan. Is job.pretty plan commands) (same ∙ built.its_plan)
          (holds commands (done.follows.stands none built.empty));
    }
