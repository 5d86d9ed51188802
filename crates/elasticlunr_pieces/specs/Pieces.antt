-- The pieces of an index, and its head.
use Rattle.std.specs.Prelude.{◌≡◌, ◌⊎◌, ◌≤◌, ◌+◌, ◌-◌, ◌/◌, ℕ, List, [], ◌∷◌, ◌++◌, Option, None, Some, codes}
use Rattle.std.specs.Prelude.{decimal, drop, length, string_bytes, vec_len, IfSome}
use Rattle.std.specs.List.{flat_map}
use Rattle.std.specs.Prelude.{slice_index_or}
use Rattle.serde_json.specs.Written.{compact_text}
use Rattle.sha2.specs.Hashers.{Holds256}
use Rattle.elasticlunr_error.specs.Text.{Bytes, bytes_of}
use Rattle.elasticlunr_print.specs.Parts.{plan_of_parts}
use Rattle.elasticlunr_print.specs.declared.parts.Parts.{Parts}
use Rattle.elasticlunr_store.specs.Contents.{TextMap}
use Rattle.elasticlunr_pieces.specs.Cut.{entries_in, IsCut, IsCutTo}
use Rattle.elasticlunr_pieces.specs.Entries.{AreTokens, documents_text, kept_documents, references}
use Rattle.elasticlunr_pieces.specs.Entries.{kept_titles, titles_text}
use Rattle.std.specs.Prelude.{map}
use Rattle.elasticlunr_pieces.specs.Entries.{tries_text}
use Rattle.elasticlunr_pieces.specs.EntryTexts.{document_texts, title_texts, token_texts}
use Rattle.elasticlunr_pieces.specs.Folder.{folder_of}
use Rattle.elasticlunr_pieces.specs.Head.{counts_of, firsts, head_value, starts_from}
use Rattle.elasticlunr_pieces.specs.Numbers.{told_documents, told_texts}
use Rattle.elasticlunr_pieces.specs.declared.making.Head.{Head}
use Rattle.elasticlunr_pieces.specs.declared.making.Piece.{Piece}
use Rattle.elasticlunr_pieces.specs.declared.making.Pieces.{Pieces}
use Rattle.elasticlunr_pieces.specs.declared.progress.Progress.{Progress}

-- the text of a piece of the tries of an index
abbrev pub tokens_text : Parts → List Bytes → Bytes
tokens_text parts tokens = tries_text (references parts.store.now) parts.tries.now tokens

-- The titles in a field of the documents whose texts are kept.
abbrev pub titles_in : Parts → Bytes → List Bytes
titles_in parts field = kept_titles (map string_bytes parts.fields.now) field parts.store.now

-- The pieces of an index: its tokens are cut into groups, with one piece of the tries for each, and
-- so are the documents whose texts are kept, with an eighth of the size, and their titles in a
-- field, with a 32nd.
pub record ArePieces (parts : Parts) (field : Bytes) (size : ℕ) (tries : List (List Bytes))
    (texts : List (List TextMap)) (titles : List (List Bytes)) : Type 0 where
  pub tokens : List Bytes
  pub are_tokens : AreTokens parts.tries.now tokens
  pub tries_cut : IsCut (tokens_text parts) size tokens tries
  pub texts_cut : IsCut documents_text (size / 8) (kept_documents parts.store.now) texts
  pub titles_cut : IsCut titles_text (size / 32) (titles_in parts field) titles

-- the texts of all pieces, one after the other
abbrev pub all_texts : Parts → List (List Bytes) → List (List TextMap) → List (List Bytes) → Bytes
all_texts parts tries texts titles = (flat_map (tokens_text parts) tries
    ++ flat_map documents_text texts) ++ flat_map titles_text titles

-- the length of the text of each piece
abbrev pub sizes_of : {A : Type 0} → (List A → Bytes) → List (List A) → List ℕ
sizes_of text_of groups = map (λ group. length (text_of group)) groups

abbrev pub all_sizes : Parts → List (List Bytes) → List (List TextMap) → List (List Bytes) → List ℕ
all_sizes parts tries texts titles = (sizes_of (tokens_text parts) tries
    ++ sizes_of documents_text texts) ++ sizes_of titles_text titles

-- a file: a letter and a number, with this text
pub record IsFile (letter : Bytes) (n : ℕ) (bytes : Bytes) (piece : Piece) : Type 0 where
  pub name : string_bytes piece.name ≡ letter ++ (decimal n ++ codes ".json")
  pub text : string_bytes piece.text ≡ bytes

-- the head of an index with these pieces
pub record IsHead (parts : Parts) (field : Bytes) (tries : List (List Bytes))
    (texts : List (List TextMap)) (titles : List (List Bytes)) (head : Head) : Type 0 where
  pub folder : string_bytes head.folder ≡ folder_of (all_texts parts tries texts titles)
  pub text : string_bytes head.text ≡ compact_text (head_value (plan_of_parts parts)
      parts.store.now (references parts.store.now) (record {
        folder = folder_of (all_texts parts tries texts titles);
        tries = firsts tries;
        texts = counts_of texts;
        titles = counts_of titles;
        sizes = all_sizes parts tries texts titles;
        title = field;
      }))

-- entries are cut as far as these groups; for private clauses
pub record IsFar {A : Type 0} (text_of : List A → Bytes) (size : ℕ) (entries : List A)
    (entry_texts : List Bytes) (groups : List (List A)) (progress : Progress) : Type 0 where
  pub cut : IsCutTo text_of size entries groups (drop progress.next entries)
  pub held : IfSome progress.pending
      (λ text. string_bytes text ≡ slice_index_or entry_texts progress.next [])
  pub starts : progress.starts.items ≡ starts_from 0 groups
  pub sizes : progress.sizes.items ≡ sizes_of text_of groups
  pub counts : progress.counts.items ≡ counts_of groups
  pub many : progress.next ≡ entries_in groups

-- so far these pieces were made, those of the tries first, and then those of the texts
pub record HasMade (pieces : Pieces) (tries : List (List Bytes)) (texts : List (List TextMap))
    (titles : List (List Bytes)) : Type 0 where
  pub tokens : AreTokens pieces.parts.tries.now (bytes_of pieces.tokens.items)
  pub names : told_texts pieces.numbers.references.items ≡ references pieces.parts.store.now
  pub documents : told_documents pieces.documents.items ≡ kept_documents pieces.parts.store.now
  pub headings : told_texts pieces.headings.items ≡ titles_in pieces.parts pieces.field.now
  pub tries_far : IsFar (tokens_text pieces.parts) pieces.size (bytes_of pieces.tokens.items)
      (token_texts (references pieces.parts.store.now) pieces.parts.tries.now
      (bytes_of pieces.tokens.items)) tries pieces.tries
  pub texts_far : IsFar documents_text (pieces.size / 8) (kept_documents pieces.parts.store.now)
      (document_texts (kept_documents pieces.parts.store.now)) texts pieces.texts
  pub titles_far : IsFar titles_text (pieces.size / 32) (titles_in pieces.parts pieces.field.now)
      (title_texts (titles_in pieces.parts pieces.field.now)) titles pieces.titles
  pub order : (texts ≡ []) ⊎ (length (bytes_of pieces.tokens.items) ≤ pieces.tries.next)
  pub last : (titles ≡ []) ⊎ ((length (bytes_of pieces.tokens.items) ≤ pieces.tries.next)
      × (length pieces.documents.items ≤ pieces.texts.next))
  pub hashed : Holds256 pieces.hasher (all_texts pieces.parts tries texts titles)

-- how many tokens, documents and titles stand in no piece yet
abbrev pub entries_left : Pieces → ℕ
entries_left pieces = (vec_len pieces.tokens - pieces.tries.next)
    + (vec_len pieces.documents - pieces.texts.next) + (vec_len pieces.headings - pieces.titles.next)

-- a piece of the tries was made
abbrev pub MakesTries : (old new : Pieces) (tries : List (List Bytes)) (texts : List (List TextMap))
    (titles : List (List Bytes)) → Piece → Type 0
MakesTries old new tries texts titles piece = (group : List Bytes)
    × HasMade new (tries ++ group ∷ []) texts titles
    × IsFile (codes "t") (length tries) (tokens_text old.parts group) piece

-- a piece of the texts was made
abbrev pub MakesTexts : (old new : Pieces) (tries : List (List Bytes)) (texts : List (List TextMap))
    (titles : List (List Bytes)) → Piece → Type 0
MakesTexts old new tries texts titles piece = (group : List TextMap)
    × HasMade new tries (texts ++ group ∷ []) titles
    × IsFile (codes "d") (length texts) (documents_text group) piece

-- a piece of the titles was made
abbrev pub MakesTitles : (old new : Pieces) (tries : List (List Bytes))
    (texts : List (List TextMap)) (titles : List (List Bytes)) → Piece → Type 0
MakesTitles old new tries texts titles piece = (group : List Bytes)
    × HasMade new tries texts (titles ++ group ∷ [])
    × IsFile (codes "h") (length titles) (titles_text group) piece

-- one piece more was made, or all have been
abbrev pub IsNext : (old new : Pieces) (tries : List (List Bytes)) (texts : List (List TextMap))
    (titles : List (List Bytes)) → Option Piece → Type 0
IsNext old new tries texts titles None = HasMade new tries texts titles
    × ArePieces old.parts old.field.now old.size tries texts titles
IsNext old new tries texts titles (Some piece) = MakesTries old new tries texts titles piece
    ⊎ MakesTexts old new tries texts titles piece ⊎ MakesTitles old new tries texts titles piece
