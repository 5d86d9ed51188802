-- The texts that are stored of a document, and the lengths of its fields, put in one after the
-- other.
use Rattle.std.specs.Prelude.{List, [], ◌∷◌, length, map, Option, None, Some, option_map, String}
use Rattle.std.specs.Prelude.{Vec}
use Rattle.std.specs.declared.alloc.Global.{Global}
use Rattle.std.specs.FinMap as finite
use Rattle.elasticlunr_error.specs.Text.{Text, Bytes, texts_of}
use Rattle.elasticlunr_store.specs.Contents.{Contents, TextMap, with_length}

-- the texts of the tokens of a value, none where there are no tokens
abbrev pub texts_left : Option (Vec (String Global) Global) → Option (List Text)
texts_left tokens = option_map (λ left. texts_of left.items) tokens

-- the same of each value
abbrev pub token_texts : List (Option (Vec (String Global) Global)) → List (Option (List Text))
token_texts tokens = map texts_left tokens

-- the reference under its field
abbrev pub reference_alone : Bytes → Bytes → TextMap
reference_alone field reference = finite.insert finite.empty field reference

-- the texts with each value put in under its field
abbrev pub with_texts : TextMap → List Bytes → List Bytes → TextMap
with_texts texts fields [] = texts
with_texts texts [] (value ∷ values) = texts
with_texts texts (field ∷ fields) (value ∷ values) = with_texts (finite.insert texts field value)
    fields values

-- the contents with the number of tokens of one field, where it has tokens
abbrev pub with_tokens : Contents → Bytes → Bytes → Option (List Text) → Contents
with_tokens contents reference field None = contents
with_tokens contents reference field (Some tokens) = with_length contents reference field
    (length tokens)

-- the contents with the numbers of tokens of fields
abbrev pub with_all_tokens : Contents → Bytes → List Bytes → List (Option (List Text)) → Contents
with_all_tokens contents reference fields [] = contents
with_all_tokens contents reference [] (tokens ∷ more) = contents
with_all_tokens contents reference (field ∷ fields) (tokens ∷ more) = with_all_tokens
    (with_tokens contents reference field tokens) reference fields more
