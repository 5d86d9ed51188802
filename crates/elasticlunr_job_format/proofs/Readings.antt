-- What serde_json tells of bytes.
use Rattle.std.proofs.Common.{◌≡◌, ℕ, List, Bool, true, false, Some, None, if◌then◌else◌, IsUtf8, refl}
use Rattle.std.proofs.lemmas.Str.{IsUtf8-from_is_utf8, is_utf8-from_IsUtf8}
use Rattle.std.specs.Str.{is_utf8}
use Rattle.serde_json.specs.Data.{Data}
use Rattle.serde_json.specs.Read.{read}
use Rattle.elasticlunr_job_format.specs.Reading.{reading}

pub reading_some : (bytes : List ℕ) (d : Data) → IsUtf8 bytes → read bytes ≡ Some d → reading bytes ≡ Some d
reading_some bytes d text is = rw (is_utf8-from_IsUtf8 bytes text) is

none_at : (b : Bool) (bytes : List ℕ) → is_utf8 bytes ≡ b → (IsUtf8 bytes → read bytes ≡ None)
    → (if b then read bytes else None) ≡ None
none_at true bytes is none = none (IsUtf8-from_is_utf8 bytes is)
none_at false bytes is none = refl

pub reading_none : (bytes : List ℕ) → (IsUtf8 bytes → read bytes ≡ None) → reading bytes ≡ None
reading_none bytes none = none_at (is_utf8 bytes) bytes refl none
