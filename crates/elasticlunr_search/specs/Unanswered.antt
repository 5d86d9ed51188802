-- Why nothing is searched for a text that should have a request and an index.
use Rattle.std.specs.Prelude.{◌≡◌, ◌≢◌, ◌⊎◌, Option, Some, IsSomeAnd, All, codes}
use Rattle.std.specs.List.{before_first, after_first}
use Rattle.elasticlunr_text.specs.Text.{Bytes}
use Rattle.elasticlunr_lang.specs.Known.{all_languages, language_name, language_stages}
use Rattle.elasticlunr_lang.specs.declared.any.AnyLanguage.{AnyLanguage}
use Rattle.elasticlunr_search.specs.Answers.{is_line_feed, Asks, HasBelow}
use Rattle.elasticlunr_search.specs.Fields.{HasNoField, HasStages}
use Rattle.elasticlunr_search.specs.Levels.{IsTooDeep}
use Rattle.elasticlunr_search.specs.Readers.{ReadsAs, IsNotJson}
use Rattle.elasticlunr_search.specs.Refusal.{Lacks}
use Rattle.elasticlunr_search.specs.Requests.{IsNoRequest}
use Rattle.elasticlunr_search.specs.declared.answer.Refusal.{Refusal}
use Rattle.elasticlunr_search.specs.declared.answer.Refusal.TheVariants.{NotARequest, NotRead}
use Rattle.elasticlunr_search.specs.declared.answer.Refusal.TheVariants.{TooDeep}
use Rattle.elasticlunr_search.specs.declared.answer.Refusal.TheVariants.{UnknownLanguage}
use Rattle.elasticlunr_search.specs.declared.answer.Refusal.TheVariants.{OtherPipeline, NoFields}
use Rattle.elasticlunr_search.specs.declared.answer.Refusal.TheVariants.{NoTries, NoStore}
use Rattle.elasticlunr_search.specs.declared.answer.Refusal.TheVariants.{NoSuchField, Memory}
use Rattle.elasticlunr_search.specs.declared.error.SearchError.{SearchError}
use Rattle.elasticlunr_search.specs.declared.error.SearchError.TheVariants as error
use Rattle.elasticlunr_search.specs.declared.request.Request.{Request}
use Rattle.serde_json.specs.Data.{Data, string}
use Rattle.serde_json.specs.Find.{get}
use Rattle.serde_json.specs.Read.{read}

-- what is printed of a refusal
abbrev pub refusal_text : Refusal → Bytes
refusal_text NotARequest = codes "not a request"
refusal_text NotRead = codes "not JSON"
refusal_text TooDeep = codes "nested deeper than 127 levels"
refusal_text UnknownLanguage = codes "unknown language"
refusal_text OtherPipeline = codes "other stages than its language has"
refusal_text NoFields = codes "no fields"
refusal_text NoTries = codes "no trie of a field"
refusal_text NoStore = codes "no document store"
refusal_text NoSuchField = codes "no such field"
refusal_text Memory = codes "out of memory"

-- the refusal for an error of the searcher
abbrev pub refusal_of : SearchError → Refusal
refusal_of error.NotRead = NotRead
refusal_of error.TooDeep = TooDeep
refusal_of error.OtherLanguage = UnknownLanguage
refusal_of error.OtherPipeline = OtherPipeline
refusal_of error.BadFields = NoFields
refusal_of error.BadTries = NoTries
refusal_of error.BadStore = NoStore
refusal_of error.NoSuchField = NoSuchField
refusal_of error.Memory = Memory

-- there is no line below the first one
abbrev pub IsOneLine : Bytes → Type 0
IsOneLine input = before_first is_line_feed input ≡ input

-- the first line is no request
abbrev pub AsksNothing : Bytes → Type 0
AsksNothing input = (asked : Data) → read (before_first is_line_feed input) ≡ Some asked
    → IsNoRequest asked

-- the value names no language
abbrev pub NamesNone : Data → Type 0
NamesNone v = All (λ language. get (codes "lang") v ≢ Some (string (language_name language)))
    all_languages

-- its stages are not those of the language that it names
abbrev pub HasOtherStages : Data → Type 0
HasOtherStages v = (language : AnyLanguage)
    × (get (codes "lang") v ≡ Some (string (language_name language)))
    × ¬ HasStages v (language_stages language)

-- why the value is not searched in the field of this name, or else in all, out of memory aside
abbrev pub IsNotSearched : Data → Option Bytes → Refusal → Type 0
IsNotSearched v field NotARequest = ⊥
IsNotSearched v field NotRead = ⊥
IsNotSearched v field TooDeep = ⊥
IsNotSearched v field UnknownLanguage = NamesNone v
IsNotSearched v field OtherPipeline = HasOtherStages v
IsNotSearched v field NoFields = Lacks v error.BadFields
IsNotSearched v field NoTries = Lacks v error.BadTries
IsNotSearched v field NoStore = Lacks v error.BadStore
IsNotSearched v field NoSuchField = IsSomeAnd field (HasNoField v)
IsNotSearched v field Memory = Unit {0}

-- why the text of an index is not searched so: it is not JSON, or nests too deep, or its value is
-- not searched
abbrev pub IsTextNotSearched : Bytes → Option Bytes → Refusal → Type 0
IsTextNotSearched text field NotRead = IsNotJson text
IsTextNotSearched text field TooDeep = IsTooDeep text
IsTextNotSearched text field Memory = Unit {0}
IsTextNotSearched text field refusal = (v : Data) × ReadsAs text v × IsNotSearched v field refusal

-- why nothing is searched for the text: there is no request above a line feed; what stands below it
-- is not JSON, or nests too deep; or its value is not searched
abbrev pub IsRefusedBelow : Bytes → Refusal → Type 0
IsRefusedBelow input NotARequest = IsOneLine input ⊎ AsksNothing input
IsRefusedBelow input NotRead = (request : Request) × Asks input request
    × IsNotJson (after_first is_line_feed input)
IsRefusedBelow input TooDeep = (request : Request) × Asks input request
    × IsTooDeep (after_first is_line_feed input)
IsRefusedBelow input Memory = Unit {0}
IsRefusedBelow input refusal = (request : Request) × Asks input request × (v : Data)
    × HasBelow input v × IsNotSearched v (Some request.field.now) refusal
