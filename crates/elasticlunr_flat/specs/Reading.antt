-- What a reader says of the bytes before it and after it.
use Rattle.std.specs.Prelude.{◌≡◌, ◌≢◌, Bool, ◌++◌, ⊤}
use Rattle.elasticlunr_error.specs.Text.{Bytes}
use Rattle.elasticlunr_flat.specs.Flat.{Needed}
use Rattle.elasticlunr_flat.specs.declared.fault.FlatError.{FlatError}
use Rattle.elasticlunr_flat.specs.declared.fault.FlatError.TheVariants.{Malformed, Memory}

-- the bytes are those of an item that fits, and then the rest
pub record IsRead {A : Type 0} (Fits : A → Type 0) (flat : A → Bytes) (bytes : Bytes) (item : A)
    (rest : Bytes) : Type 0 where
  pub fits : Fits item
  pub parts : bytes ≡ flat item ++ rest

-- the bytes do not begin with those of an item that fits
abbrev pub BeginsWithNone : {A : Type 0} → (A → Type 0) → (A → Bytes) → Bytes → Type 0
BeginsWithNone {A} Fits flat bytes = (item : A) (rest : Bytes) → Fits item
    → bytes ≢ flat item ++ rest

-- two items that fit and with which the same bytes begin are equal, and so is what follows them
abbrev pub IsReadOneWay : {A : Type 0} → (A → Type 0) → (A → Bytes) → Type 0
IsReadOneWay {A} Fits flat = (x y : A) (a b : Bytes) → Fits x → Fits y
    → flat x ++ a ≡ flat y ++ b → (x ≡ y) × (a ≡ b)

-- each Boolean has a flat form
abbrev pub IsAnyTruth : Bool → Type 0
IsAnyTruth truth = ⊤

abbrev pub IsAnyNeeded : Needed → Type 0
IsAnyNeeded needed = ⊤

-- the bytes are those of no item that fits
abbrev pub IsOfNone : {A : Type 0} → (A → Type 0) → (A → Bytes) → Bytes → Type 0
IsOfNone {A} Fits flat bytes = (item : A) → Fits item → bytes ≢ flat item

-- it is out of memory, or the bytes are malformed for this reason
abbrev pub IsMemoryOr : Type 0 → FlatError → Type 0
IsMemoryOr reason Memory = ⊤
IsMemoryOr reason Malformed = reason
