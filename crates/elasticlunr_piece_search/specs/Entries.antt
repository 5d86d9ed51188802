-- What a piece of the tries has, and what tries have of it.
use Rattle.std.specs.Prelude.{◌≡◌, ◌<◌, ℕ, List, [], ◌∷◌, Option, IfSome, length, map}
use Rattle.std.specs.Prelude.{slice_index_or}
use Rattle.std.specs.Prelude.{String, string_bytes}
use Rattle.std.specs.declared.alloc.Global.{Global}
use Rattle.std.specs.declared.cmp.Ordering.TheVariants.{Less}
use Rattle.std.specs.List.{AllByRecursion}
use Rattle.std.specs.Str.{chars}
use Rattle.serde_json.specs.Data.{Data, array, object, Items, no_items, item}
use Rattle.elasticlunr_error.specs.Text.{Bytes, text_cmp}
use Rattle.elasticlunr_json.specs.Maps.{count, members}
use Rattle.elasticlunr_piece_head.specs.Values.{array_of}
use Rattle.elasticlunr_trie.specs.Table.{Table, Change, add, AreChanged}

-- postings in a piece: the number of a reference, and a frequency
abbrev pub Numbered : Type 0
Numbered = List (ℕ × ℕ)

-- each number and its frequency in turn
abbrev pub turns : Numbered → Items
turns [] = no_items
turns (p ∷ ps) = item (count p.0) (item (count p.1) (turns ps))

-- the list of some postings
abbrev pub list_value : Numbered → Data
list_value ps = array (turns ps)

-- an entry: a token, and its postings in each field
abbrev pub Entry : Type 0
Entry = Bytes × List Numbered

-- the value of a piece
abbrev pub piece_value : List Entry → Data
piece_value entries = object (members (array_of list_value) entries)

-- each number is that of one of so many references
abbrev pub AreNumbers : (references : ℕ) → Numbered → Type 0
AreNumbers references = AllByRecursion (λ p. p.0 < references)

-- the changes that set the postings of a token, under the references that the numbers name
abbrev pub settings : List Bytes → Bytes → Numbered → List Change
settings names token ps = map (λ p. add (chars token) (slice_index_or names p.0 []) p.1) ps

-- the postings of a token, under the references of these names, lead from the old table to the new
-- one
pub record IsListAdded (names : List Bytes) (token : Bytes) (ps : Numbered) (old new : Table) :
    Type 0 where
  pub numbers : AreNumbers (length names) ps
  pub changes : AreChanged (settings names token ps) old new

-- so do those in each field, from table to table
pub record IsEntryAdded (names : List Bytes) (entry : Entry) (old new : List Table) : Type 0 where
  pub lists : length entry.1 ≡ length old
  pub many : length new ≡ length old
  pub each : (i : ℕ) (d : Table) → i < length old → IsListAdded names entry.0
      (slice_index_or entry.1 i []) (slice_index_or old i d) (slice_index_or new i d)

-- and those of each entry, one after the other
abbrev pub AreEntriesAdded : List Bytes → List Entry → (old new : List Table) → Type 0
AreEntriesAdded names [] old new = new ≡ old
AreEntriesAdded names (entry ∷ entries) old new = (between : List Table)
    × IsEntryAdded names entry old between × AreEntriesAdded names entries between new

-- the tokens of a map of the members of a piece
abbrev pub tokens_in : {X : Type 0} → List (String Global × X) → List Bytes
tokens_in entries = map (λ e. string_bytes e.0) entries

-- an entry has a list for each of so many fields, with numbers of so many references
pub record HasLists (references fields : ℕ) (entry : Entry) : Type 0 where
  pub many : length entry.1 ≡ fields
  pub numbers : AllByRecursion (AreNumbers references) entry.1

-- the token is below the first one of the next piece, if there is one
abbrev pub IsBelow : Option Bytes → Bytes → Type 0
IsBelow next token = IfSome next (λ other. text_cmp token other ≡ Less)

-- the first of the tokens is this one, and all are below the first one of the next piece
pub record AreTokensFrom (first : Bytes) (next : Option Bytes) (tokens : List Bytes) : Type 0 where
  pub rest : List Bytes
  pub begin : tokens ≡ first ∷ rest
  pub below : AllByRecursion (IsBelow next) tokens
