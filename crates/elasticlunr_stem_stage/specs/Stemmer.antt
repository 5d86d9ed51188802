-- Which stemmer is that of a language.
use Rattle.std.specs.Prelude.{◌≡◌, ◌++◌, Some, codes}
use Rattle.std.specs.Str.{chars}
use Rattle.elasticlunr_text.specs.TableStemmers.{stemmer_name}
use Rattle.elasticlunr_text.specs.declared.lang.common.table_stemmer.TableStemmer.{TableStemmer}
use Rattle.elasticlunr_stem_cache.specs.Cached.{cached_table}
use Rattle.elasticlunr_stems.specs.Reading.{table_in}
use Rattle.elasticlunr_stem_tables.specs.Languages.{language_code, table_text}
use Rattle.elasticlunr_stem_tables.specs.declared.language.Language.{Language}
use Rattle.elasticlunr_stem_tables.specs.declared.language.Version.{Version}

-- its name is `stemmer-` and the code of the language, and its table is the language's after this
-- version
pub record IsStemmerOf (language : Language) (version : Version) (stemmer : TableStemmer) : Type 0
  where
    pub named : stemmer_name stemmer ≡ codes "stemmer-" ++ language_code language
    pub reads : table_in (chars (table_text version language)) ≡ Some (cached_table stemmer.stemmer)
