-- Why a text is refused.
use Rattle.std.specs.Prelude.{◌≡◌, ◌≢◌, ◌<◌, ◌⊎◌, ℕ, List, Result, Err}
use Rattle.elasticlunr_text.specs.Text.{Bytes}
use Rattle.elasticlunr_trie.specs.Table.{Table}
use Rattle.elasticlunr_store.specs.Contents.{Contents, IsConsistent}
use Rattle.elasticlunr.specs.History.{Commands}
use Rattle.elasticlunr.specs.Printed.{IsPrintOf}
use Rattle.elasticlunr.specs.Shape.{HasFields, HasStore, HasLanguage}
use Rattle.elasticlunr.specs.Standing.{Plan}
use Rattle.elasticlunr_search.specs.Fields.{HasStages, HasWholeTries}
use Rattle.elasticlunr_search.specs.Levels.{IsTooDeep}
use Rattle.elasticlunr_search.specs.Readers.{ReadsAs, IsNotJson}
use Rattle.serde_json.specs.Data.{Data, depth}
use Rattle.serde_json.specs.Read.{max_depth}
use Rattle.elasticlunr_search.specs.declared.error.SearchError.{SearchError}
use Rattle.elasticlunr_search.specs.declared.error.SearchError.TheVariants.{NotRead, TooDeep}
use Rattle.elasticlunr_search.specs.declared.error.SearchError.TheVariants.{OtherLanguage}
use Rattle.elasticlunr_search.specs.declared.error.SearchError.TheVariants.{OtherPipeline}
use Rattle.elasticlunr_search.specs.declared.error.SearchError.TheVariants.{BadFields, BadTries}
use Rattle.elasticlunr_search.specs.declared.error.SearchError.TheVariants.{BadStore, NoSuchField}
use Rattle.elasticlunr_search.specs.declared.error.SearchError.TheVariants.{Memory}

-- it is out of memory, or this refusal, for this reason
abbrev pub StopsBy : SearchError → Type 0 → SearchError → Type 0
StopsBy refusal reason e = (e ≡ Memory) ⊎ ((e ≡ refusal) × reason)

-- the value names another language than this
abbrev pub NamesOther : (language : Bytes) → Data → Type 0
NamesOther language v = (name : Bytes) × HasLanguage v name × (name ≢ language)

-- what the value lacks
abbrev pub Lacks : Data → SearchError → Type 0
Lacks v NotRead = ⊥
Lacks v TooDeep = ⊥
Lacks v OtherLanguage = ⊥
Lacks v OtherPipeline = ⊥
Lacks v BadFields = (names : List Bytes) → ¬ HasFields v names
Lacks v BadTries = (names : List Bytes) × HasFields v names
    × ((tables : List Table) → ¬ HasWholeTries v names tables)
Lacks v BadStore = (contents : Contents) → IsConsistent contents → ¬ HasStore v contents
Lacks v NoSuchField = ⊥
Lacks v Memory = Unit {0}

-- why a searcher of the language of this name and of stages of these names refuses the value: it
-- names another language, or has not these names of stages, or lacks a part
abbrev pub RefusesValue : (language : Bytes) → (stages : List Bytes) → Data → SearchError → Type 0
RefusesValue language stages v e = ((e ≡ OtherLanguage) × NamesOther language v)
    ⊎ (((e ≡ OtherPipeline) × ¬ HasStages v stages) ⊎ Lacks v e)

-- why no value is read of the text: it is not JSON, or nests deeper than `serde_json` goes
abbrev pub IsUnread : List ℕ → SearchError → Type 0
IsUnread text e = (e ≡ Memory)
    ⊎ (((e ≡ NotRead) × IsNotJson text) ⊎ ((e ≡ TooDeep) × IsTooDeep text))

-- why it refuses the text: no value is read of it, or its value is refused
abbrev pub Refuses : (language : Bytes) → (stages : List Bytes) → List ℕ → SearchError → Type 0
Refuses language stages text e = IsUnread text e
    ⊎ ((v : Data) × ReadsAs text v × RefusesValue language stages v e)

-- why it refuses a text that was printed of an index: out of memory, for its depth, or since the
-- index has another language or other stages
abbrev pub RefusesPrint : (language : Bytes) → (stages : List Bytes) → List ℕ → SearchError → Type 0
RefusesPrint language stages text e = (plan : Plan) (commands : Commands)
    (print : IsPrintOf plan commands text)
    → (e ≡ Memory) ⊎ (((e ≡ TooDeep) × (max_depth < depth print.value))
    ⊎ (((e ≡ OtherLanguage) × (plan.language ≢ language))
    ⊎ ((e ≡ OtherPipeline) × (plan.stages ≢ stages))))

-- it answers this refusal, or is out of memory
abbrev pub IsRefusedBy : {T : Type 0} → Result T SearchError → SearchError → Type 0
IsRefusedBy result refusal = (result ≡ Err refusal) ⊎ (result ≡ Err Memory)

-- a value of another language is refused as such, and one of this language, or of none, for other
-- stages
pub record RefusesOthers {T : Type 0} (language : Bytes) (stages : List Bytes) (v : Data)
    (result : Result T SearchError) : Type 0 where
  pub other_language : NamesOther language v → IsRefusedBy result OtherLanguage
  pub other_stages : ¬ NamesOther language v → ¬ HasStages v stages
      → IsRefusedBy result OtherPipeline
