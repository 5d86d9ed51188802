-- The folders of the heads of a site, and which of them are kept.
use Rattle.std.specs.Prelude.{◌≡◌, ◌⊎◌, ◌-◌, ◌&&◌, ◌||◌, not, ℕ, Bool, true, false, List, [], ◌∷◌, ◌++◌}
use Rattle.std.specs.Prelude.{Option, None, Some, drop, length, bytes_eq, if◌then◌else◌, map}
use Rattle.std.specs.List.{list_any}
use Rattle.std.specs.Borrow.{Bor}
use Rattle.elasticlunr_publish.specs.Names.{Bytes}

-- the texts that are borrowed
abbrev pub told_texts : List (Bor Bytes) → List Bytes
told_texts texts = map (λ text. text.now) texts

-- the name stands in the list
abbrev pub is_listed : Bytes → List Bytes → Bool
is_listed name names = list_any (bytes_eq name) names

-- the name stands at the end of the list
abbrev pub ends_with : Bytes → List Bytes → Bool
ends_with name [] = false
ends_with name (other ∷ []) = bytes_eq name other
ends_with name (other ∷ others) = ends_with name others

-- the names, up to the last place of this one
pub record IsUpToLast (name : Bytes) (names front : List Bytes) : Type 0 where
  pub rest : List Bytes
  pub split : names ≡ front ++ rest
  pub ends : ends_with name front ≡ true
  pub none : is_listed name rest ≡ false

-- The folders of the heads so far, the last one last: those that were recorded, up to the folder of
-- the head that is there, since no head names what was recorded after it. Where that one wasn't
-- recorded, it comes after all of them.
abbrev pub AreHeads : List Bytes → Option Bytes → List Bytes → Type 0
AreHeads recorded None heads = heads ≡ recorded
AreHeads recorded (Some current) heads = IsUpToLast current recorded heads
    ⊎ ((is_listed current recorded ≡ false) × (heads ≡ recorded ++ current ∷ []))

-- the folders, and then a new one, unless it is the last already
abbrev pub followed_by : List Bytes → Bytes → List Bytes
followed_by heads new = if ends_with new heads then heads else heads ++ new ∷ []

-- the last items of a list, so many at most
abbrev pub last_of : ℕ → List Bytes → List Bytes
last_of n items = drop (length items - n) items

-- what is kept: the folders of the last heads, so many at most, with that of the new head
abbrev pub AreKept : List Bytes → Option Bytes → Bytes → ℕ → List Bytes → Type 0
AreKept recorded current new keep kept = (heads : List Bytes) × AreHeads recorded current heads
    × (kept ≡ last_of keep (followed_by heads new))

-- a folder that was recorded, or that of the head that is there
abbrev pub is_known : List Bytes → Option Bytes → Bytes → Bool
is_known recorded None name = is_listed name recorded
is_known recorded (Some current) name = is_listed name recorded || bytes_eq name current

-- what is removed: each folder that is known and isn't kept
abbrev pub AreRemoved : List Bytes → Option Bytes → List Bytes → List Bytes → Type 0
AreRemoved recorded current kept removed = (name : Bytes)
    → is_listed name removed ≡ (is_known recorded current name && not (is_listed name kept))
