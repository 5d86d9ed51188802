-- What is borrowed of a store, as texts; for private clauses.
use Rattle.std.specs.Prelude.{◌++◌, ℕ, List, [], ◌∷◌, map, slice_get}
use Rattle.std.specs.Option.{option_to_list}
use Rattle.std.specs.Borrow.{Bor}
use Rattle.std.specs.BTreeMap.{BTreeMap}
use Rattle.std.specs.Prelude.{String}
use Rattle.std.specs.declared.alloc.Global.{Global}
use Rattle.elasticlunr_error.specs.Text.{Bytes}
use Rattle.elasticlunr_store.specs.Contents.{TextMap, text_map}

-- the texts that are borrowed
abbrev pub told_texts : List (Bor Bytes) → List Bytes
told_texts texts = map (λ text. text.now) texts

-- the documents that are borrowed
abbrev pub told_documents : List (Bor (BTreeMap (String Global) (String Global))) → List TextMap
told_documents documents = map (λ document. text_map document.now.entries) documents

-- the texts at these places, as far as they are there
abbrev pub texts_at : List Bytes → List ℕ → List Bytes
texts_at texts [] = []
texts_at texts (place ∷ places) = option_to_list (slice_get texts place) ++ texts_at texts places
