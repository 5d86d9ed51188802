-- Slots with texts and their places; for private clauses.
use Rattle.std.specs.Prelude.{◌≡◌, ◌≢◌, List, Some, take}
use Rattle.elasticlunr_error.specs.Text.{Bytes}
use Rattle.elasticlunr_pieces.specs.Entries.{number_of}
use Rattle.elasticlunr_pieces.specs.declared.slots.Slot.{Slot}

-- the text of a slot that is taken has its place among these texts
abbrev pub HasPlace : List Bytes → Slot → Type 0
HasPlace texts slot = slot.length ≢ 0 → number_of texts (take slot.length slot.text) ≡ Some slot.place
