-- The languages that a script may be for: those that are built in, and Hungarian.
use Rattle.std.specs.Prelude.{Bool, true, false, List, [], ◌∷◌, ◌++◌, Option, Some, map}
use Rattle.elasticlunr_text.specs.Text.{Text, Bytes}
use Rattle.elasticlunr_lang.specs.Classes.{class_stages}
use Rattle.elasticlunr_lang.specs.Known.{all_languages, language_name, language_stages}
use Rattle.elasticlunr_lang.specs.Known.{language_leaves}
use Rattle.elasticlunr_lang.specs.declared.any.AnyLanguage.TheVariants.{English}
use Rattle.elasticlunr_stem_languages.specs.Hungarian.{hungarian_name, hungarian_code}
use Rattle.elasticlunr_stem_languages.specs.Hungarian.{hungarian_leaves}
use Rattle.elasticlunr_stem_stage.specs.Stemmed.{with_table}
use Rattle.elasticlunr_stem_tables.specs.declared.language.Language as table
use Rattle.elasticlunr_stem_tables.specs.declared.language.Language.TheVariants as tables
use Rattle.elasticlunr_browser.specs.declared.language.ScriptLanguage.{ScriptLanguage}
use Rattle.elasticlunr_browser.specs.declared.language.ScriptLanguage.TheVariants.{BuiltIn}
use Rattle.elasticlunr_browser.specs.declared.language.ScriptLanguage.TheVariants.{Hungarian}

-- all of them, in order
abbrev pub script_languages : List ScriptLanguage
script_languages = map BuiltIn all_languages ++ Hungarian ∷ []

-- elasticlunr.js has the stages of English itself
abbrev pub is_english : ScriptLanguage → Bool
is_english (BuiltIn English) = true
is_english language = false

-- the names
abbrev pub script_name : ScriptLanguage → Bytes
script_name (BuiltIn language) = language_name language
script_name Hungarian = hungarian_name

-- the names of the stages, without the stemmer of a table
abbrev pub script_stages : ScriptLanguage → List Bytes
script_stages (BuiltIn language) = language_stages language
script_stages Hungarian = class_stages hungarian_code

-- what these make of a token
abbrev pub script_leaves : ScriptLanguage → Text → Option Text → Type 0
script_leaves (BuiltIn language) = language_leaves language
script_leaves Hungarian = hungarian_leaves

-- the language of the table of the stemmer
abbrev pub script_table : ScriptLanguage → Option table.Language
script_table (BuiltIn language) = with_table language
script_table Hungarian = Some tables.Hungarian
