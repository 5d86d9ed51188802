-- The table of a language, and which stems are right by it.
use Rattle.std.specs.Prelude.{◌≡◌, Option, Some}
use Rattle.std.specs.Str.{chars}
use Rattle.elasticlunr_error.specs.Text.{Text}
use Rattle.elasticlunr_stems.specs.Tables.{Table}
use Rattle.elasticlunr_stems.specs.Stems.{stem_of}
use Rattle.elasticlunr_stems.specs.Reading.{table_in}
use Rattle.elasticlunr_stem_tables.specs.Languages.{table_text}
use Rattle.elasticlunr_stem_tables.specs.declared.language.Language.{Language}
use Rattle.elasticlunr_stem_tables.specs.declared.language.Version.{Version}

-- the table of a language after a version of Snowball
abbrev pub table_after : Language → Version → Option Table
table_after language version = table_in (chars (table_text version language))

-- a text is the stem of a word by that table
abbrev pub IsStem : Language → Version → Text → Text → Type 0
IsStem language version word stem = (table : Table) → table_after language version ≡ Some table
    → stem ≡ stem_of table word
