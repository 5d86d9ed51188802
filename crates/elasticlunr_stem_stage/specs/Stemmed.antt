-- What the stages of a built-in language are, and what they make of a token, with its stemmer after
-- them or without.
use Rattle.std.specs.Prelude.{◌≡◌, ◌∷◌, ◌++◌, [], Bool, true, false, List, Option, Some, None}
use Rattle.std.specs.Prelude.{MatchOption, IsSomeAnd, codes}
use Rattle.std.specs.Str.{chars}
use Rattle.elasticlunr_error.specs.Text.{Text, Bytes}
use Rattle.elasticlunr_text.specs.Trimmed.{unless_empty}
use Rattle.elasticlunr_lang.specs.Known.{language_leaves, language_stages}
use Rattle.elasticlunr_lang.specs.declared.any.AnyLanguage.{AnyLanguage}
use Rattle.elasticlunr_lang.specs.declared.any.AnyLanguage.TheVariants.{English, Arabic, Danish}
use Rattle.elasticlunr_lang.specs.declared.any.AnyLanguage.TheVariants.{Dutch, Finnish, French}
use Rattle.elasticlunr_lang.specs.declared.any.AnyLanguage.TheVariants.{German, Italian, Korean}
use Rattle.elasticlunr_lang.specs.declared.any.AnyLanguage.TheVariants.{Norwegian, Portuguese}
use Rattle.elasticlunr_lang.specs.declared.any.AnyLanguage.TheVariants.{Romanian, Russian, Spanish}
use Rattle.elasticlunr_lang.specs.declared.any.AnyLanguage.TheVariants.{Swedish, Turkish}
use Rattle.elasticlunr_stems.specs.Reading.{table_in}
use Rattle.elasticlunr_stems.specs.Stems.{stem_of}
use Rattle.elasticlunr_stem_tables.specs.Languages.{language_code, table_text}
use Rattle.elasticlunr_stem_tables.specs.declared.language.Language.{Language}
use Rattle.elasticlunr_stem_tables.specs.declared.language.Language.TheVariants as tables
use Rattle.elasticlunr_stem_tables.specs.declared.language.Version.TheVariants.{Current}

-- the language of the tables that has the same name. English and Arabic have stemmers without a
-- table, and Korean has none.
abbrev pub with_table : AnyLanguage → Option Language
with_table English = None
with_table Arabic = None
with_table Danish = Some tables.Danish
with_table Dutch = Some tables.Dutch
with_table Finnish = Some tables.Finnish
with_table French = Some tables.French
with_table German = Some tables.German
with_table Italian = Some tables.Italian
with_table Korean = None
with_table Norwegian = Some tables.Norwegian
with_table Portuguese = Some tables.Portuguese
with_table Romanian = Some tables.Romanian
with_table Russian = Some tables.Russian
with_table Spanish = Some tables.Spanish
with_table Swedish = Some tables.Swedish
with_table Turkish = Some tables.Turkish

-- the name of the stage of a table: `stemmer-`, and the code of the language
abbrev pub stemmer_stages : Option Language → List Bytes
stemmer_stages None = []
stemmer_stages (Some language) = (codes "stemmer-" ++ language_code language) ∷ []

-- the stem of a word after the table of the language, by Snowball 2.2; an empty stem is dropped
abbrev pub StemsTo : Language → Text → Option Text → Type 0
StemsTo language word left = IsSomeAnd (table_in (chars (table_text Current language)))
    (λ table. left ≡ unless_empty (stem_of table word))

-- what the stages leave is stemmed, where there is a table; what they drop stays dropped
abbrev pub StemmedLeaves : Option Language → (Text → Option Text → Type 0) → Text → Option Text
    → Type 0
StemmedLeaves None leaves token left = leaves token left
StemmedLeaves (Some language) leaves token left = (first : Option Text) × leaves token first
    × MatchOption first (left ≡ None) (λ word. StemsTo language word left)

-- the names of the stages of a language, with stems or without
abbrev pub stages_with : Bool → AnyLanguage → List Bytes
stages_with false language = language_stages language
stages_with true language = language_stages language ++ stemmer_stages (with_table language)

-- what these make of a token
abbrev pub leaves_with : Bool → AnyLanguage → Text → Option Text → Type 0
leaves_with false language = language_leaves language
leaves_with true language = StemmedLeaves (with_table language) (language_leaves language)
