-- The value that the text of an index was read as; for private clauses.
use Rattle.std.specs.Prelude.{◌≡◌, string_bytes}
use Rattle.elasticlunr_text.specs.Text.{bytes_of}
use Rattle.elasticlunr.specs.Shape.{HasLanguage}
use Rattle.elasticlunr_search.specs.Fields.{HasStages, IsIndexOf}
use Rattle.elasticlunr_search.specs.declared.rebuilt_index.RebuiltIndex.{RebuiltIndex as Made}
use Rattle.elasticlunr_search.specs.declared.source.Source.{Source}
use Rattle.elasticlunr_search.specs.declared.source.Source.TheVariants.{RebuiltIndex, Value}
use Rattle.serde_json.specs.Data.{Data}
use Rattle.serde_json.specs.View.{view}

-- the value is that of an index of this language and these stages with these parts
pub record IsOfParts (v : Data) (made : Made) : Type 0 where
  pub parts : IsIndexOf v (bytes_of made.printed.fields.items) made.printed.tries.items
      made.printed.store
  pub language : HasLanguage v (string_bytes made.language)
  pub stages : HasStages v (bytes_of made.stages.items)

-- this is the value
abbrev pub IsSource : Source → Data → Type 0
IsSource (RebuiltIndex made) v = IsOfParts v made
IsSource (Value value) v = view value ≡ v
