-- Which stems stand in a cache.
use Rattle.std.specs.Prelude.{◌≡◌, Option, Some}
use Rattle.elasticlunr_error.specs.Text.{text_of}
use Rattle.elasticlunr_stem_cache.specs.Tables.{IsStem}
use Rattle.elasticlunr_stem_tables.specs.declared.language.Language.{Language}
use Rattle.elasticlunr_stem_tables.specs.declared.language.Version.{Version}
use Rattle.elasticlunr_stem_cache.specs.declared.cache.Entry.{Entry}

-- what stands in a slot, if anything does, is a word with its stem
abbrev pub IsRight : Language → Version → Option Entry → Type 0
IsRight language version slot = (entry : Entry) → slot ≡ Some entry
    → IsStem language version (text_of entry.word) (text_of entry.stem)
