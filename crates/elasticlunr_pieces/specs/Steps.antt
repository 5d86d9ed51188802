-- How the text of a piece grows; for private clauses.
use Rattle.std.specs.Prelude.{◌≡◌, ◌<◌, ◌≤◌, ◌+◌, ℕ, List, [], ◌∷◌, ◌++◌, length, drop, Option}
use Rattle.std.specs.Prelude.{IfSome}
use Rattle.std.specs.Prelude.{String, string_bytes, slice_index_or}
use Rattle.std.specs.declared.alloc.Global.{Global}
use Rattle.elasticlunr_error.specs.Text.{Bytes}
use Rattle.elasticlunr_pieces.specs.declared.cut.Form.{Form}
use Rattle.elasticlunr_pieces.specs.declared.cut.Cut.{Cut}

-- the texts, with a comma before each
abbrev pub after_commas : List Bytes → Bytes
after_commas [] = []
after_commas (x ∷ xs) = 44 ∷ (x ++ after_commas xs)

-- the texts, with a comma between each two
abbrev pub joined : List Bytes → Bytes
joined [] = []
joined (x ∷ xs) = x ++ after_commas xs

-- the texts in brackets
abbrev pub in_brackets : Form → List Bytes → Bytes
in_brackets form texts = form.opening.now ++ (joined texts ++ form.closing.now)

-- the texts from one number to the other were put after the old text, as long as there was room
pub record Extends (texts : List Bytes) (form : Form) (start next : ℕ) (old new : Bytes) : Type 0
  where
    pub more : List Bytes
    pub there : drop start texts ≡ more ++ drop next texts
    pub many : next ≡ start + length more
    pub text : new ≡ old ++ after_commas more
    pub fits : 0 < length more → length new + length form.closing.now ≤ form.size

-- for the next text there is no room, and it may be pending
pub record Stops (texts : List Bytes) (form : Form) (next : ℕ) (new : Bytes)
    (pending : Option (String Global)) : Type 0 where
  pub full : next < length texts
      → form.size < length new + 1 + length (slice_index_or texts next []) + length form.closing.now
  pub held : IfSome pending (λ text. string_bytes text ≡ slice_index_or texts next [])

-- the texts from this number on are cut after a group
pub record IsCutAt (texts : List Bytes) (form : Form) (start : ℕ) (cut : Cut) : Type 0 where
  pub group : List Bytes
  pub there : drop start texts ≡ group ++ drop cut.next texts
  pub many : cut.next ≡ start + length group
  pub text : string_bytes cut.text ≡ in_brackets form group
  pub some : 0 < length group
  pub fits : 1 < length group → length (in_brackets form group) ≤ form.size
  pub full : cut.next < length texts
      → form.size < length (in_brackets form (group ++ slice_index_or texts cut.next [] ∷ []))
  pub held : IfSome cut.pending (λ text. string_bytes text ≡ slice_index_or texts cut.next [])
