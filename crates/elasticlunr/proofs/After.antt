-- What the calls of an index add to those before them.
use Rattle.std.proofs.Common.{◌≡◌, inl, ℕ, List, [], ◌∷◌, ◌++◌, Option, refl, sym, ap, subst, ◌∙◌}
use Rattle.std.specs.Prelude.{IfNone}
use Rattle.std.specs.List.{AllZip}
use Rattle.serde_json.specs.Data.{Data}
use Rattle.elasticlunr_text.specs.Text.{Text, Bytes}
use Rattle.elasticlunr_text.specs.Stages.{IsRun}
use Rattle.elasticlunr.specs.After.{IsAfter}
use Rattle.elasticlunr.specs.Current.{IsPrintedAfter, IsReadableAfter}
use Rattle.elasticlunr.specs.Calls.{Call, adding, followed_by, IsCommandOf, AreCommandsOf}
use Rattle.elasticlunr.specs.Choices.{Choices, beginning, with_fields, fields_plan, language_plan, Reads}
use Rattle.elasticlunr.specs.Documents as documents
use Rattle.elasticlunr_commands.specs.History.{Document, Command, add, Commands, none, ◌▸◌}
use Rattle.elasticlunr.specs.Index.{SameSettings, ForCommands, IsDocument, plan_of, reads_of, StandsFor}
use Rattle.elasticlunr_print.specs.Printed.{IsPrintOf, IsTextAfter}
use Rattle.elasticlunr.specs.Reading.{LanguageReads, ReadsOnly}
use Rattle.elasticlunr_commands.specs.Standing.{Plan}
use Rattle.elasticlunr.specs.Tokenizers.{MayAnswer}
use Rattle.elasticlunr.specs.declared.index.Index.{Index}
use Rattle.elasticlunr.proofs.Calling.{document_more, plan_alike}
use Rattle.elasticlunr.proofs.Choosing.{where_none}

zip_more : {A B : Type 0} (R : A → B → Type 0) (xs : List A) (ys : List B) (x : A) (y : B) → AllZip R xs ys → R x y
    → AllZip R (xs ++ x ∷ []) (ys ++ y ∷ [])
zip_more R [] [] x y all is = (is, tt)
zip_more R [] (z ∷ ys) x y all is = absurd all
zip_more R (z ∷ xs) [] x y all is = absurd all
zip_more R (z ∷ xs) (w ∷ ys) x y all is = (all.0, zip_more R xs ys x y all.1 is)

followed_more : (commands : Commands) (list : List Command) (next : Command) → followed_by commands (list ++ next ∷ [])
    ≡ (followed_by commands list ▸ next)
followed_more commands [] next = refl
followed_more commands (command ∷ list) next = followed_more (commands ▸ command) list next

-- one more call is one more command
commands_of_more : (makes : Bytes → List Bytes → Document → Type 0) (calls : List Call) (commands : Commands)
    (call : Call) (command : Command)
    → AreCommandsOf makes calls commands → IsCommandOf makes call command
    → AreCommandsOf makes (calls ++ call ∷ []) (commands ▸ command)
commands_of_more makes calls commands call command are is = record {
  list = are.list ++ command ∷ [];
  each = zip_more (IsCommandOf makes) calls are.list call command are.each is;
  whole = ap (λ before. before ▸ command) are.whole ∙ sym (followed_more none are.list command);
}

module _ {L P X Y : Type 0} {O : X → Type 0} {F : Y → Type 0} {p : _} {g : _} (name_of : L → Bytes) (name_text : (v : X)
    × O v → Bytes)
    (tokens_of : L → Text → List Text) (leaves : (v : X) × O v → Text → Option Text) (leaves_of : L → Text → Option Text
    → Type 0) (language : L) (plan : Plan) (calls : List Call)
    (old new : Index L P X Y O F p g) (settings : SameSettings old new)
    (was : IsAfter name_of name_text tokens_of leaves leaves_of language plan calls old) where
  language_reads : ReadsOnly (reads_of tokens_of leaves new) (LanguageReads (tokens_of language) (leaves_of language))
  language_reads = subst (λ c. ReadsOnly (Reads tokens_of MayAnswer (IsRun (λ step. leaves (step.vtable, step.value)))
      c) (LanguageReads (tokens_of language) (leaves_of language))) (sym settings) was.reads

  -- one more call was one more command
  pub after_more : (call : Call) (command : Command)
      → IsCommandOf (documents.IsDocument plan.fields plan.reference_field
      (LanguageReads (tokens_of language) (leaves_of language))) call command
      → ((commands : Commands) → StandsFor name_of name_text old commands
      → StandsFor name_of name_text new (commands ▸ command))
      → IsAfter name_of name_text tokens_of leaves leaves_of language plan (calls ++ call ∷ []) new
  after_more call command is stands = record {
    prints = plan_alike name_of name_text old new settings ∙ was.prints;
    reads = language_reads;
    commands = was.commands ▸ command;
    were = commands_of_more _ calls was.commands call command was.were is;
    stands = stands was.commands was.stands;
  }

  -- a document that the index makes is made by the language
  made_by_language : (reference : Bytes) (values : List Bytes) (document : Document)
      → IsDocument tokens_of leaves old reference values document
      → documents.IsDocument plan.fields plan.reference_field (LanguageReads (tokens_of language) (leaves_of language))
      reference values document
  made_by_language reference values document is =
      subst (λ pl. documents.IsDocument pl.fields pl.reference_field
      (LanguageReads (tokens_of language) (leaves_of language)) reference values document) was.prints
      (document_more _ _ _ _ was.reads reference values document is)

  pub after_added : (reference : Bytes) (values : List Bytes)
      → ((document : Document) × IsDocument tokens_of leaves old reference values document
      × ((commands : Commands) → StandsFor name_of name_text old commands
      → StandsFor name_of name_text new (commands ▸ add document)))
      → IsAfter name_of name_text tokens_of leaves leaves_of language plan (calls ++ adding reference values ∷ []) new
  after_added reference values added = after_more (adding reference values) (add added.0)
      (made_by_language reference values added.0 added.1) added.2

-- what is printed of an index is printed after its calls
pub printed_after : {L P X Y : Type 0} {O : X → Type 0} {F : Y → Type 0} {p : _} {g : _} (name_of : L → Bytes)
    (name_text : (v : X) × O v → Bytes)
    (tokens_of : L → Text → List Text) (leaves : (v : X) × O v → Text → Option Text) (leaves_of : L → Text → Option Text
    → Type 0) (language : L) (plan : Plan) (calls : List Call)
    (index : Index L P X Y O F p g) (text : List ℕ) (text_of : Data → List ℕ)
    → IsAfter name_of name_text tokens_of leaves leaves_of language plan calls index
    → ForCommands name_of name_text index (λ commands. IsTextAfter text_of (plan_of name_of name_text index) commands
    text)
    → IsPrintedAfter (LanguageReads (tokens_of language) (leaves_of language)) text_of plan calls text
printed_after name_of name_text tokens_of leaves leaves_of language plan calls index text text_of was texts = record {
  commands = was.commands;
  were = was.were;
  printed = subst (λ pl. IsTextAfter text_of pl was.commands text) was.prints
      (texts was.commands was.commands was.stands (inl refl));
}

-- and is read as its value
pub readable_after : {L P X Y : Type 0} {O : X → Type 0} {F : Y → Type 0} {p : _} {g : _} (name_of : L → Bytes)
    (name_text : (v : X) × O v → Bytes)
    (tokens_of : L → Text → List Text) (leaves : (v : X) × O v → Text → Option Text) (leaves_of : L → Text → Option Text
    → Type 0) (language : L) (plan : Plan) (calls : List Call)
    (index : Index L P X Y O F p g) (text : List ℕ) → IsAfter name_of name_text tokens_of leaves leaves_of language plan
    calls index
    → ((commands : Commands) → StandsFor name_of name_text index commands
    → IsPrintOf (plan_of name_of name_text index) commands text)
    → IsReadableAfter (LanguageReads (tokens_of language) (leaves_of language)) plan calls text
readable_after name_of name_text tokens_of leaves leaves_of language plan calls index text was prints = record {
  commands = was.commands;
  were = was.were;
  print = subst (λ pl. IsPrintOf pl was.commands text) was.prints (prints was.commands was.stands);
}

-- nothing was called on a new index
pub new_after : {L P X Y : Type 0} {O : X → Type 0} {F : Y → Type 0} {p : _} {g : _} (name_of : L → Bytes)
    (name_text : (v : X) × O v → Bytes)
    (tokens_of : L → Text → List Text) (leaves : (v : X) × O v → Text → Option Text) (leaves_of : L → Text → Option Text
    → Type 0) (language : L) (plan : Plan)
    (index : Index L P X Y O F p g) → plan_of name_of name_text index ≡ plan
    → ReadsOnly (reads_of tokens_of leaves index) (LanguageReads (tokens_of language) (leaves_of language))
    → StandsFor name_of name_text index none → IsAfter name_of name_text tokens_of leaves leaves_of language plan []
    index
new_after name_of name_text tokens_of leaves leaves_of language plan index prints reads stands = record {
  prints = prints;
  reads = reads;
  commands = none;
  were = record { list = []; each = tt; whole = refl };
  stands = stands;
}

-- the plan of a builder that was given a language and fields alone
pub plan_of_fields : {L P T : Type 0} (name_of : L → Bytes) (stages_of : L → List Bytes) (language : L)
    (names : List Bytes) (given : Choices L (Option P) T) (plan : Plan)
    → given ≡ with_fields names (beginning language)
    → IfNone given.pipeline (plan ≡ language_plan name_of stages_of given) → plan
    ≡ fields_plan (name_of language) (stages_of language) names
plan_of_fields name_of stages_of language names given plan same is = where_none given.pipeline _
    (ap (λ c. c.pipeline) same) is ∙ ap (language_plan name_of stages_of) same
