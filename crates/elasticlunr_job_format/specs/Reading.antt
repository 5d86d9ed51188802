-- What bytes are read as.
use Rattle.std.specs.Prelude.{Option, None, if◌then◌else◌}
use Rattle.std.specs.Str.{is_utf8}
use Rattle.serde_json.specs.Data.{Data}
use Rattle.serde_json.specs.Read.{read}
use Rattle.elasticlunr_error.specs.Text.{Bytes}

-- the value that serde_json reads from bytes, which have to be UTF-8
abbrev pub reading : Bytes → Option Data
reading bytes = if is_utf8 bytes then read bytes else None
