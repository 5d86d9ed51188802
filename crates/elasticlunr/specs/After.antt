-- An index after calls, where its language reads the values.
use Rattle.std.specs.Prelude.{◌≡◌, ℕ, List, [], ◌∷◌, ◌++◌, Option}
use Rattle.serde_json.specs.Data.{Data}
use Rattle.elasticlunr_text.specs.Text.{Text, Bytes}
use Rattle.elasticlunr_lang.specs.Known.{language_leaves, language_name, language_stages}
use Rattle.elasticlunr_lang.specs.Words.{words}
use Rattle.elasticlunr_lang.specs.declared.any.AnyLanguage.{AnyLanguage}
use Rattle.elasticlunr.specs.Calls.{Call, AreCommandsOf}
use Rattle.elasticlunr.specs.Choices.{fields_plan}
use Rattle.elasticlunr.specs.Current.{IsPrintedAfter, IsReadableAfter}
use Rattle.elasticlunr.specs.Documents as documents
use Rattle.elasticlunr_commands.specs.History.{Commands}
use Rattle.elasticlunr.specs.Index.{plan_of, reads_of, StandsFor}
use Rattle.elasticlunr.specs.Reading.{LanguageReads, ReadsOnly}
use Rattle.elasticlunr_commands.specs.Standing.{Plan}
use Rattle.elasticlunr.specs.declared.index.Index.{Index}

-- `name_of` is the name of a language, `tokens_of` its tokens of a text and `leaves_of` the output
-- of its stages for a token; `name_text` is the name of a boxed stage and `leaves` its output for a
-- token.
module _ {L P X Y : Type 0} {O : X → Type 0} {F : Y → Type 0} {p : _} {g : _} where
  -- the index is of this plan, reads what this language reads, and holds what these calls of a new
  -- index leave
  pub record IsAfter (name_of : L → Bytes) (name_text : (v : X) × O v → Bytes) (tokens_of : L → Text
      → List Text) (leaves : (v : X) × O v → Text → Option Text) (leaves_of : L → Text
      → Option Text → Type 0)
      (language : L) (plan : Plan) (calls : List Call) (index : Index L P X Y O F p g) : Type 0
    where
      pub prints : plan_of name_of name_text index ≡ plan
      pub reads : ReadsOnly (reads_of tokens_of leaves index)
          (LanguageReads (tokens_of language) (leaves_of language))
      pub commands : Commands
      pub were : AreCommandsOf (documents.IsDocument plan.fields plan.reference_field
          (LanguageReads (tokens_of language) (leaves_of language))) calls commands
      pub stands : StandsFor name_of name_text index commands

  -- the same with a language of the library, where nothing but the fields was chosen
  abbrev pub IsKeptAfter : (name_text : (v : X) × O v → Bytes) (leaves : (v : X) × O v → Text
      → Option Text) → AnyLanguage → L → (fields : List Bytes) → List Call → Index L P X Y O F p g
      → Type 0
  IsKeptAfter name_text leaves kept language fields calls index =
      IsAfter (λ _. language_name kept) name_text (λ _. words) leaves (λ _. language_leaves kept)
      language (fields_plan (language_name kept) (language_stages kept) fields) calls index

  -- whatever calls the old index is after, the new one is after these and this one
  abbrev pub IsAfterOneMore : (name_of : L → Bytes) (name_text : (v : X) × O v → Bytes)
      (tokens_of : L → Text → List Text) (leaves : (v : X) × O v → Text → Option Text)
      (leaves_of : L → Text → Option Text → Type 0)
      → Call → (old new : Index L P X Y O F p g) → Type 0
  IsAfterOneMore name_of name_text tokens_of leaves leaves_of call old new =
      (language : L) (plan : Plan) (calls : List Call) → IsAfter name_of name_text tokens_of leaves
      leaves_of language plan calls old
      → IsAfter name_of name_text tokens_of leaves leaves_of language plan (calls ++ call ∷ []) new

  -- whatever calls the index is after, the text is printed after these
  abbrev pub IsPrintOfCalls : (name_of : L → Bytes) (name_text : (v : X) × O v → Bytes)
      (tokens_of : L → Text → List Text) (leaves : (v : X) × O v → Text → Option Text)
      (leaves_of : L → Text → Option Text → Type 0)
      → (text_of : Data → List ℕ) → Index L P X Y O F p g → (text : List ℕ) → Type 0
  IsPrintOfCalls name_of name_text tokens_of leaves leaves_of text_of index text =
      (language : L) (plan : Plan) (calls : List Call) → IsAfter name_of name_text tokens_of leaves
      leaves_of language plan calls index
      → IsPrintedAfter (LanguageReads (tokens_of language) (leaves_of language)) text_of plan calls
      text

  -- whatever calls the index is after, the text is printed after these, and is read as its value
  abbrev pub IsReadableOfCalls : (name_of : L → Bytes) (name_text : (v : X) × O v → Bytes)
      (tokens_of : L → Text → List Text) (leaves : (v : X) × O v → Text → Option Text)
      (leaves_of : L → Text → Option Text → Type 0)
      → Index L P X Y O F p g → (text : List ℕ) → Type 0
  IsReadableOfCalls name_of name_text tokens_of leaves leaves_of index text =
      (language : L) (plan : Plan) (calls : List Call) → IsAfter name_of name_text tokens_of leaves
      leaves_of language plan calls index
      → IsReadableAfter (LanguageReads (tokens_of language) (leaves_of language)) plan calls text
