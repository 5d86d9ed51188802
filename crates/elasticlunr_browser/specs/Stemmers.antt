-- The stemmers of the languages with a table, and what a script holds of them.
use Rattle.std.specs.Prelude.{◌++◌, Option, option_map, codes}
use Rattle.serde_json.specs.Data.{Data, string, object, member, no_members}
use Rattle.elasticlunr_text.specs.Text.{Bytes}
use Rattle.elasticlunr_browser.specs.Languages.{script_table}
use Rattle.elasticlunr_browser.specs.declared.language.ScriptLanguage.{ScriptLanguage}
use Rattle.elasticlunr_stem_tables.specs.Languages.{language_code, table_text}
use Rattle.elasticlunr_stem_tables.specs.declared.language.Language.{Language}
use Rattle.elasticlunr_stem_tables.specs.declared.language.Version.TheVariants.{Current}

-- the object of the name of a stage and of the text of its table
abbrev pub table_data : Bytes → Bytes → Data
table_data name table = object (member (codes "name") (string name)
    (member (codes "table") (string table) no_members))

-- `stemmer-` and the code of the language, with its table after Snowball 2.2
abbrev pub stemmer_data : Language → Data
stemmer_data language =
    table_data (codes "stemmer-" ++ language_code language) (table_text Current language)

-- what a script holds of the stemmer of a language: nothing where it has no table
abbrev pub stemmer_of : ScriptLanguage → Option Data
stemmer_of language = option_map stemmer_data (script_table language)
