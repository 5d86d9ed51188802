-- The name of the folder of pieces.
use Rattle.std.specs.Prelude.{◌++◌, codes, take}
use Rattle.hex.specs.Hex.{encode_lower}
use Rattle.sha2.specs.Sha256.{sha256}
use Rattle.elasticlunr_error.specs.Text.{Bytes}

-- `pieces-`, and the first 16 hexadecimal digits of the SHA-256 of the texts of all pieces, one
-- after the other
abbrev pub folder_of : Bytes → Bytes
folder_of texts = codes "pieces-" ++ encode_lower (take 8 (sha256 texts))
