-- What is rebuilt from a text; for private clauses.
use Rattle.std.specs.Prelude.{ℕ, List}
use Rattle.elasticlunr_search.specs.Readers.{ReadsAs}
use Rattle.elasticlunr_search.specs.Source.{IsOfParts}
use Rattle.elasticlunr_search.specs.declared.rebuilt_index.RebuiltIndex.{RebuiltIndex}
use Rattle.serde_json.specs.Data.{Data}

-- the text is read as the value of an index of this language and these stages with these parts
abbrev pub IsRebuilt : (text : List ℕ) → RebuiltIndex → Type 0
IsRebuilt text made = (v : Data) × ReadsAs text v × IsOfParts v made
