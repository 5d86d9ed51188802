-- What a filter of stop words does.
use Rattle.std.specs.Prelude.{◌≡◌, Bool, IsTrue, List, Option, Some, None, if◌then◌else◌}
use Rattle.std.specs.Prelude.{string_bytes}
use Rattle.std.specs.Str.{all_scalars}
use Rattle.elasticlunr_text.specs.Text.{Text, Bytes, texts_of, is_listed}
use Rattle.elasticlunr_text.specs.declared.lang.common.stop_words.StopWordFilter.{StopWordFilter}

-- the name of the filter
abbrev pub filter_name : StopWordFilter → Bytes
filter_name filter = string_bytes filter.name

-- the token is a stop word of the filter
abbrev pub has_word : StopWordFilter → Text → Bool
has_word filter token = is_listed token (texts_of filter.stop_words.keys)

-- the stop words of the filter are these
abbrev pub HasWords : StopWordFilter → List Text → Type 0
HasWords filter words = (token : Text) → IsTrue (all_scalars token) → has_word filter token
    ≡ is_listed token words

-- the token, unless it is a stop word
abbrev pub without : StopWordFilter → Text → Option Text
without filter token = if has_word filter token then None else Some token
