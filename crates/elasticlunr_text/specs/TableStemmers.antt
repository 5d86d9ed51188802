-- What a stemmer is called that a table describes, and what it makes of a token.
use Rattle.std.specs.Prelude.{Option, string_bytes}
use Rattle.elasticlunr_error.specs.Text.{Text, Bytes}
use Rattle.elasticlunr_stems.specs.Stems.{stem_of}
use Rattle.elasticlunr_stem_cache.specs.Cached.{cached_table}
use Rattle.elasticlunr_text.specs.Trimmed.{unless_empty}
use Rattle.elasticlunr_text.specs.declared.lang.common.table_stemmer.TableStemmer.{TableStemmer}

abbrev pub stemmer_name : TableStemmer → Bytes
stemmer_name stage = string_bytes stage.name

-- the stem of the token, unless it is empty
abbrev pub table_stem : TableStemmer → Text → Option Text
table_stem stage token = unless_empty (stem_of (cached_table stage.stemmer) token)
