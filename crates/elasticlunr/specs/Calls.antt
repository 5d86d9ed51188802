-- The calls that an index was given, and the commands that these were.
use Rattle.std.specs.Prelude.{◌≡◌, ℕ, List, [], ◌∷◌}
use Rattle.std.specs.List.{AllZip}
use Rattle.elasticlunr_text.specs.Text.{Text, Bytes}
use Rattle.elasticlunr_commands.specs.History.{Document, Command, add, remove, compact, Commands}
use Rattle.elasticlunr_commands.specs.History.{none, ◌▸◌}

-- a document added, as its reference and its values; a reference removed; a compaction
pub data Call : Type 0 where
  adding : Bytes → List Bytes → Call
  removing : Bytes → Call
  compacting : Call

-- at most one list of tokens is read of a value for a field
abbrev pub HasOneReading : (reads : ℕ → Bytes → List Text → Type 0) → Type 0
HasOneReading reads = (i : ℕ) (value : Bytes) (tokens others : List Text) → reads i value tokens
    → reads i value others → tokens ≡ others

-- at most one document is made of a reference and values
abbrev pub HasOneDocument : (makes : Bytes → List Bytes → Document → Type 0) → Type 0
HasOneDocument makes = (reference : Bytes) (values : List Bytes) (document other : Document)
    → makes reference values document → makes reference values other → document ≡ other

-- what the one makes of a reference and values, the other makes, too
abbrev pub MakesOnly : (makes other : Bytes → List Bytes → Document → Type 0) → Type 0
MakesOnly makes other = (reference : Bytes) (values : List Bytes) (document : Document)
    → makes reference values document → other reference values document

-- the commands, and these after them, in order
abbrev pub followed_by : Commands → List Command → Commands
followed_by commands [] = commands
followed_by commands (next ∷ more) = followed_by (commands ▸ next) more

-- In each definition `makes` relates a reference and values to the document that is made of them.
module _ (makes : Bytes → List Bytes → Document → Type 0) where
  -- the call was this command
  abbrev pub IsCommandOf : Call → Command → Type 0
  IsCommandOf (adding reference values) (add document) = makes reference values document
  IsCommandOf (adding reference values) (remove r) = ⊥
  IsCommandOf (adding reference values) compact = ⊥
  IsCommandOf (removing reference) (add document) = ⊥
  IsCommandOf (removing reference) (remove r) = reference ≡ r
  IsCommandOf (removing reference) compact = ⊥
  IsCommandOf compacting (add document) = ⊥
  IsCommandOf compacting (remove r) = ⊥
  IsCommandOf compacting compact = Unit {0}

  -- the calls of a new index, in order, were these commands
  pub record AreCommandsOf (calls : List Call) (commands : Commands) : Type 0 where
    pub list : List Command
    pub each : AllZip IsCommandOf calls list
    pub whole : commands ≡ followed_by none list

-- calls were the same commands where the one and where the other makes the documents
abbrev pub SameCommands : (makes other : Bytes → List Bytes → Document → Type 0) → Type 0
SameCommands makes other = (calls : List Call) (left right : Commands)
    → AreCommandsOf makes calls left → AreCommandsOf other calls right → left ≡ right

-- what calls were where the one makes the documents, they were where the other does, too
abbrev pub CommandsOnly : (makes other : Bytes → List Bytes → Document → Type 0) → Type 0
CommandsOnly makes other = (calls : List Call) (commands : Commands)
    → AreCommandsOf makes calls commands → AreCommandsOf other calls commands
