-- A searcher of an index by the language that the index names.
use Rattle.std.specs.Prelude.{◌≡◌, ◌↔◌, Bool, Option, Some, false, codes}
use Rattle.elasticlunr_text.specs.Stages.{LeavesBy, names_by}
use Rattle.elasticlunr_text.specs.Text.{Text, Bytes}
use Rattle.elasticlunr_text.specs.declared.pipeline.run.Pipeline.{Pipeline}
use Rattle.elasticlunr_lang.specs.Known.{language_name, language_stages}
use Rattle.elasticlunr_lang.specs.declared.any.AnyLanguage.{AnyLanguage}
use Rattle.elasticlunr_stem_stage.specs.Stemmed.{leaves_with, stages_with}
use Rattle.elasticlunr.specs.History.{Commands}
use Rattle.elasticlunr.specs.Printed.{IsPrintOf}
use Rattle.elasticlunr.specs.Standing.{Plan}
use Rattle.elasticlunr_search.specs.Fields.{HasStages}
use Rattle.elasticlunr_search.specs.Readers.{ReadsAs}
use Rattle.elasticlunr_search.specs.Source.{IsSource}
use Rattle.elasticlunr_search.specs.Standing.{HasPartsOf, Searches, Speaks}
use Rattle.elasticlunr_search.specs.declared.searcher.Searcher.{Searcher}
use Rattle.elasticlunr_search.specs.declared.source.Source.{Source}
use Rattle.serde_json.specs.Data.{Data, string}
use Rattle.serde_json.specs.Find.{get}

-- it searches the index that the text has, by the language that the index names, with stems or
-- without, as the stages say that the index has
pub record IsNamedIn {P X : Type 0} {O : X → Type 0} {p : _} (leaves : (v : X) × O v → Text
    → Option Text) (text : Bytes) (s : Searcher AnyLanguage P X O p) : Type 0 where
  pub value : Data
  pub reads : ReadsAs text value
  pub parts : HasPartsOf value s
  pub language : AnyLanguage
  pub named : get (codes "lang") value ≡ Some (string (language_name language))
  pub stems : Bool
  pub staged : HasStages value (stages_with stems language)
  pub speaks : Speaks (leaves_with stems) leaves s language
  -- whatever index the text was printed of, it searches what that holds
  pub searches : (plan : Plan) (commands : Commands) → IsPrintOf plan commands text
      → Searches s plan commands

-- the text is read as a value that names a language, and its stages are neither those of this
-- language nor these with its stemmer after them
abbrev pub IsTextOfOtherStages : Bytes → Type 0
IsTextOfOtherStages text = (v : Data) × ReadsAs text v × (language : AnyLanguage)
    × (get (codes "lang") v ≡ Some (string (language_name language)))
    × ((stems : Bool) → ¬ HasStages v (stages_with stems language))

-- for private clauses: it is the pipeline of this language, without stems where the index that was
-- read has the language's own stages, and with them where it hasn't
pub record IsPipelineFor {P X : Type 0} {O : X → Type 0} {p : _} (name_text : (v : X) × O v → Bytes)
    (leaves : (v : X) × O v → Text → Option Text) (language : AnyLanguage) (source : Source)
    (pipeline : Pipeline P X O p) : Type 0 where
  pub stems : Bool
  pub names : names_by name_text pipeline ≡ stages_with stems language
  pub stages : LeavesBy leaves pipeline (leaves_with stems language)
  pub own : (v : Data) → IsSource source v
      → HasStages v (language_stages language) ↔ (stems ≡ false)
