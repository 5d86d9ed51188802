-- What is asked for, found in the text of an index.
use Rattle.std.specs.Prelude.{◌≡◌, Bool, List, Some, None, All, Contains, IsTrue, codes, false}
use Rattle.elasticlunr_text.specs.Text.{Bytes}
use Rattle.elasticlunr_lang.specs.Known.{language_name}
use Rattle.elasticlunr_lang.specs.Words.{words}
use Rattle.elasticlunr_lang.specs.declared.any.AnyLanguage.{AnyLanguage}
use Rattle.elasticlunr_stem_stage.specs.Stemmed.{leaves_with, stages_with}
use Rattle.elasticlunr_trie.specs.Table.{Table}
use Rattle.elasticlunr_store.specs.Contents.{Contents}
use Rattle.elasticlunr.specs.Fields.{has_name}
use Rattle.elasticlunr.specs.History.{Commands}
use Rattle.elasticlunr.specs.Printed.{IsPrintOf}
use Rattle.elasticlunr.specs.Reading.{LanguageReads}
use Rattle.elasticlunr.specs.Shape.{ArePartsOf}
use Rattle.elasticlunr.specs.Standing.{Plan}
use Rattle.elasticlunr_search.specs.Fields.{HasStages, IsIndexOf, IsIndexWith}
use Rattle.elasticlunr_search.specs.Readers.{ReadsAs}
use Rattle.elasticlunr_search.specs.Unanswered.{IsTextNotSearched}
use Rattle.elasticlunr_search.specs.declared.answer.Refusal.{Refusal}
use Rattle.elasticlunr_search.specs.declared.answer.Refusal.TheVariants.{NoSuchField}
use Rattle.elasticlunr_hits.specs.Asked.{searched}
use Rattle.elasticlunr_hits.specs.Hits.{AreHitsBy, Told}
use Rattle.elasticlunr_hits.specs.Lines.{AreLinesIn}
use Rattle.elasticlunr_hits.specs.declared.asked.Asked.{Asked}
use Rattle.elasticlunr_hits.specs.declared.lines.LineForm.{LineForm}
use Rattle.serde_json.specs.Data.{Data, string}
use Rattle.serde_json.specs.Find.{get}

-- the text is that of an index, and these are the lines in this form of the hits in it, by the
-- language that it names, with stems or without, as the stages say that it has
pub record AreLinesOf (text : Bytes) (asked : Asked) (form : LineForm) (lines : Bytes) : Type 0
  where
    pub value : Data
    pub reads : ReadsAs text value
    pub fields : List Bytes
    pub tables : List Table
    pub contents : Contents
    pub of_index : IsIndexOf value fields tables contents
    pub are_there : All (λ name. IsTrue (has_name name fields)) (searched asked fields)
    pub language : AnyLanguage
    pub named : get (codes "lang") value ≡ Some (string (language_name language))
    pub stems : Bool
    pub staged : HasStages value (stages_with stems language)
    pub hits : List Told
    pub are_hits : AreHitsBy (LanguageReads words (leaves_with stems language)) fields tables
        contents asked hits
    pub are_lines : AreLinesIn form contents hits lines
    -- if the text was printed from an index, these are the parts of that index
    pub of_print : (plan : Plan) (commands : Commands) → IsPrintOf plan commands text
        → ArePartsOf plan commands fields tables contents

-- the text is that of an index without one of the fields that are searched
abbrev pub LacksAskedField : (text : Bytes) → Asked → Type 0
LacksAskedField text asked = (v : Data) × ReadsAs text v × (fields : List Bytes)
    × IsIndexWith v fields × (name : Bytes) × Contains (searched asked fields) name
    × (has_name name fields ≡ false)

-- why there are no such lines: the text is not searched, or it has no such field
abbrev pub IsNotFoundIn : (text : Bytes) → Asked → Refusal → Type 0
IsNotFoundIn text asked NoSuchField = LacksAskedField text asked
IsNotFoundIn text asked refusal = IsTextNotSearched text None refusal
