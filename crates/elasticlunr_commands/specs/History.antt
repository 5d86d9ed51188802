-- What was done to an index: documents added, references removed, compactions, in order.
use Rattle.std.specs.Prelude.{◌≡◌, List, Option, None, Some, if◌then◌else◌, ◌⊎◌}
use Rattle.std.specs.Str.{bytes_eq}
use Rattle.elasticlunr_error.specs.Text.{Text, Bytes}

-- what a document has for a field: its value, and the tokens of that, none where the field holds
-- the reference
pub record Given : Type 0 where
  pub value : Bytes
  pub tokens : Option (List Text)

-- a reference, and what is given for the first fields, in their order
pub record Document : Type 0 where
  pub reference : Bytes
  pub given : List Given

pub data Command : Type 0 where
  add : Document → Command
  remove : Bytes → Command
  compact : Command

-- the commands so far, with the last one to the right
infixl 4 ◌▸◌
pub data Commands : Type 0 where
  none : Commands
  ◌▸◌ : Commands → Command → Commands

-- the current document of a reference: the last one added for it, if it was not removed after that
abbrev pub now : Commands → Bytes → Option Document
now none r = None
now (commands ▸ add d) r = if bytes_eq r d.reference then Some d else now commands r
now (commands ▸ remove gone) r = if bytes_eq r gone then None else now commands r
now (commands ▸ compact) r = now commands r

-- the additions and removals of one reference, in order
abbrev pub about : Bytes → Commands → Commands
about r none = none
about r (commands ▸ add d) = if bytes_eq r d.reference then about r commands ▸ add d else about r
    commands
about r (commands ▸ remove gone) = if bytes_eq r gone then about r commands ▸ remove gone else about
    r commands
about r (commands ▸ compact) = about r commands

-- no compaction is among the commands
abbrev pub HasNoCompaction : Commands → Type 0
HasNoCompaction none = Unit {0}
HasNoCompaction (commands ▸ add d) = HasNoCompaction commands
HasNoCompaction (commands ▸ remove r) = HasNoCompaction commands
HasNoCompaction (commands ▸ compact) = ⊥

-- the last command is a compaction
abbrev pub EndsCompacted : Commands → Type 0
EndsCompacted none = ⊥
EndsCompacted (commands ▸ add d) = ⊥
EndsCompacted (commands ▸ remove r) = ⊥
EndsCompacted (commands ▸ compact) = Unit {0}

-- both without a compaction, with the same additions and removals of each reference
pub record AgreeOnEach (left right : Commands) : Type 0 where
  pub left_plain : HasNoCompaction left
  pub right_plain : HasNoCompaction right
  pub same : (r : Bytes) → about r left ≡ about r right

-- both compacted last, with the same current documents
pub record AgreeCompacted (left right : Commands) : Type 0 where
  pub left_ends : EndsCompacted left
  pub right_ends : EndsCompacted right
  pub same : (r : Bytes) → now left r ≡ now right r

-- the two are printed alike
abbrev pub Agree : Commands → Commands → Type 0
Agree left right = (left ≡ right) ⊎ (AgreeOnEach left right ⊎ AgreeCompacted left right)

-- documents are added and nothing else is done, and each reference is added once
abbrev pub AddsEachOnce : Commands → Type 0
AddsEachOnce none = Unit {0}
AddsEachOnce (commands ▸ add d) = (now commands d.reference ≡ None) × AddsEachOnce commands
AddsEachOnce (commands ▸ remove r) = ⊥
AddsEachOnce (commands ▸ compact) = ⊥

-- what is done to a new index to have the current documents in it, each added once, in some order
pub record IsFresh (commands fresh : Commands) : Type 0 where
  pub once : AddsEachOnce fresh
  pub same : (r : Bytes) → now fresh r ≡ now commands r
