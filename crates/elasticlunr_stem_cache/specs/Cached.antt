-- The table of a cached stemmer.
use Rattle.elasticlunr_stems.specs.Tables.{Table}
use Rattle.elasticlunr_stems.specs.Held.{table_of}
use Rattle.elasticlunr_stem_cache.specs.declared.stemmer.CachedStemmer.{CachedStemmer}

abbrev pub cached_table : CachedStemmer → Table
cached_table stemmer = table_of stemmer.stemmer
