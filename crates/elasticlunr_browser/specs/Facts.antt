-- What a script knows of words, and its text.
use Rattle.std.specs.Prelude.{◌≡◌, ℕ, Bool, List, [], ◌++◌, codes, is_some, if◌then◌else◌}
use Rattle.std.specs.List.{list_any}
use Rattle.std.specs.declared.string.String.{String}
use Rattle.std.specs.declared.alloc.Global.{Global}
use Rattle.serde_json.specs.Data.{Data, array, object, member, no_members}
use Rattle.serde_json.specs.View.{items_of}
use Rattle.serde_json.specs.Written.{compact_text}
use Rattle.elasticlunr_text.specs.Text.{Bytes, texts_of, bytes_of}
use Rattle.elasticlunr_lang.specs.Lower.{lower}
use Rattle.elasticlunr_lang.specs.Words.{is_separator}
use Rattle.elasticlunr_browser.specs.Kinds.{HoldsLanguages}
use Rattle.elasticlunr_browser.specs.Languages.{script_table}
use Rattle.elasticlunr_browser.specs.Marks.{Marks}
use Rattle.elasticlunr_browser.specs.Named.{AreNamed}
use Rattle.elasticlunr_browser.specs.Pairs.{Pairs}
use Rattle.elasticlunr_browser.specs.Stages.{texts, numbers}
use Rattle.elasticlunr_browser.specs.declared.language.ScriptLanguage.{ScriptLanguage}
use Rattle.elasticlunr_browser.specs.declared.template.TheConstants.{HEAD, STAGES, STEMMER, TAIL}

-- the object of the separators of words, lower case and stages
abbrev pub facts_data : Data → Data → Data → Data
facts_data between lower stages = object
    (member (codes "between") between
    (member (codes "lower") lower (member (codes "stages") stages no_members)))

-- the separators of words, lower case, and some stages
pub record IsFacts (stages : List Data) (d : Data) : Type 0 where
  pub marks : List ℕ
  pub pairs : List (String Global)
  pub are_marks : Marks is_separator marks
  pub are_pairs : Pairs lower (texts_of pairs)
  pub value : d ≡ facts_data (numbers marks) (texts (bytes_of pairs)) (array (items_of stages))

-- one of these languages has a table of a stemmer
abbrev pub has_table : List ScriptLanguage → Bool
has_table languages = list_any (λ language. is_some (script_table language)) languages

-- what makes stages of tables stands in a script only where there are some
abbrev pub stemmer_part : (stems : Bool) → Bytes
stemmer_part stems = if stems then STEMMER.now else []

-- the text of a script that knows this
abbrev pub script_text : (stems : Bool) → Data → Bytes
script_text stems facts =
    HEAD.now ++ compact_text facts ++ STAGES.now ++ stemmer_part stems ++ TAIL.now

-- the text is the script of these languages
abbrev pub IsScriptOf : List ScriptLanguage → Bytes → Type 0
IsScriptOf languages text = (stages : List Data) × (facts : Data) × HoldsLanguages languages stages
    × IsFacts stages facts × (text ≡ script_text (has_table languages) facts)

-- the text is the script of the languages that these lines name
abbrev pub IsScriptFor : List Bytes → Bytes → Type 0
IsScriptFor lines text = (languages : List ScriptLanguage) × AreNamed lines languages
    × IsScriptOf languages text
