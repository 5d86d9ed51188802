-- What the built-in languages read, and what their indexes print.
use Rattle.std.specs.Prelude.{◌≡◌, ℕ, List, [], ◌∷◌}
use Rattle.serde_json.specs.Data.{Data}
use Rattle.serde_json.specs.Written.{compact_text}
use Rattle.elasticlunr_text.specs.Text.{Text, Bytes}
use Rattle.elasticlunr_lang.specs.Known.{language_leaves, language_name, language_stages}
use Rattle.elasticlunr_lang.specs.Words.{words}
use Rattle.elasticlunr_lang.specs.declared.any.AnyLanguage.{AnyLanguage}
use Rattle.elasticlunr.specs.Calls.{Call}
use Rattle.elasticlunr.specs.Choices.{fields_plan}
use Rattle.elasticlunr.specs.Current.{IsPrintedAfter, IsReadableAfter}
use Rattle.elasticlunr.specs.Documents.{IsDocument}
use Rattle.elasticlunr_commands.specs.History.{Document}
use Rattle.elasticlunr.specs.Reading.{LanguageReads}
use Rattle.elasticlunr_commands.specs.Standing.{Plan}

-- the tokens that the language reads of a value, whatever the field
abbrev pub KeptReads : AnyLanguage → ℕ → Bytes → List Text → Type 0
KeptReads language = LanguageReads words (language_leaves language)

-- all that the language reads of the value is this token
abbrev pub ReadsOneToken : AnyLanguage → (value : Bytes) → Text → Type 0
ReadsOneToken language value token = (tokens : List Text) → KeptReads language 0 value tokens
    → tokens ≡ token ∷ []

-- the document of a reference and values that the language makes for these fields
abbrev pub IsKeptDocument : AnyLanguage → (fields : List Bytes) (reference_field reference : Bytes)
    (values : List Bytes) → Document → Type 0
IsKeptDocument language fields reference_field = IsDocument fields reference_field
    (KeptReads language)

-- the text is printed of an index of this language and this plan after these calls
abbrev pub IsKeptPrint : AnyLanguage → (text_of : Data → List ℕ) → Plan → List Call
    → (text : List ℕ) → Type 0
IsKeptPrint language text_of plan calls text = IsPrintedAfter (KeptReads language) text_of plan
    calls text

-- the text is what an index of this language and these fields prints after these calls, where
-- nothing else was chosen
abbrev pub IsTextOfCalls : AnyLanguage → (fields : List Bytes) → List Call → (text : List ℕ)
    → Type 0
IsTextOfCalls language fields calls text = IsKeptPrint language compact_text
    (fields_plan (language_name language) (language_stages language) fields) calls text

-- the same, and the text is read as the value of the index
abbrev pub IsReadableText : AnyLanguage → (fields : List Bytes) → List Call → (text : List ℕ)
    → Type 0
IsReadableText language fields calls text = IsReadableAfter (KeptReads language)
    (fields_plan (language_name language) (language_stages language) fields) calls text

-- whatever the language and the plan, what is printed after the one calls and after the other is
-- equal
abbrev pub HaveEqualPrints : (calls others : List Call) → Type 0
HaveEqualPrints calls others = (language : AnyLanguage) (plan : Plan) (text_of : Data → List ℕ)
    (text another : List ℕ)
    → IsKeptPrint language text_of plan calls text → IsKeptPrint language text_of plan others
    another → text ≡ another
