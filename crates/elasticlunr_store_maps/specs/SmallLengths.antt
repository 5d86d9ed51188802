-- Lengths of 64 bits; for private clauses.
use Rattle.std.specs.Prelude.{◌<◌, ◌^◌, IfSome}
use Rattle.std.specs.FinMap as map
use Rattle.elasticlunr_error.specs.Text.{Bytes, text_cmp}
use Rattle.elasticlunr_store_maps.specs.Contents.{LengthMap}

-- each of these lengths has 64 bits
abbrev pub AreSmallLengths : LengthMap → Type 0
AreSmallLengths m = (field : Bytes) → IfSome (map.get m field) (λ n. n < 2 ^ 64)

-- each length of each reference has 64 bits
abbrev pub HasSmallLengths : map.FinMap text_cmp LengthMap → Type 0
HasSmallLengths m = (reference : Bytes) → IfSome (map.get m reference) AreSmallLengths
