-- The texts in a set.
use Rattle.std.specs.Prelude.{List, map}
use Rattle.std.specs.Borrow.{Bor}
use Rattle.std.specs.BTreeSet.{BTreeSet}
use Rattle.elasticlunr_error.specs.Text.{Bytes}

-- the texts that stand in the set, in order
abbrev pub texts_in : BTreeSet (Bor Bytes) → List Bytes
texts_in set = map (λ text. text.now) set.keys
