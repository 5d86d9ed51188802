-- The JSON tokens of the head; for private clauses.
use Rattle.std.specs.Prelude.{◌≡◌, List, ◌∷◌, ◌++◌}
use Rattle.json.specs.Token.{Token, key}
use Rattle.json.specs.Tree.{json_tokens}
use Rattle.serde_json.specs.Data.{Data}
use Rattle.serde_json.specs.Written.{outline}
use Rattle.elasticlunr_error.specs.Text.{Bytes}
use Rattle.elasticlunr_pieces.specs.Head.{Beginnings}
use Rattle.elasticlunr_pieces.specs.Numbers.{told_texts}
use Rattle.elasticlunr_pieces.specs.declared.head_value.Places.{Places}

-- after the old tokens stand those of a member
abbrev pub WritesMember : List Token → List Token → Bytes → Data → Type 0
WritesMember old new name value = new ≡ old ++ key name ∷ json_tokens (outline value)

-- where the pieces are and begin
abbrev pub beginnings_of : Places → Beginnings
beginnings_of places = record {
  folder = places.folder.now;
  tries = told_texts places.tries.now;
  texts = places.texts.now;
  titles = places.titles.now;
  sizes = places.sizes.now;
  title = places.title.now;
}
