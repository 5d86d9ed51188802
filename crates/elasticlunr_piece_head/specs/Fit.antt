-- When what a head says fits together.
use Rattle.std.specs.Prelude.{◌≡◌, ◌≢◌, ◌+◌, ◌⊎◌, ℕ, All, sum, vec_len, if◌then◌else◌}
use Rattle.std.specs.List.{AllPairs}
use Rattle.std.specs.List.Sorted.{IsStrictlySortedBy}
use Rattle.elasticlunr_error.specs.Text.{bytes_of, text_cmp}
use Rattle.elasticlunr_piece_head.specs.declared.head.PieceHead.{PieceHead}

-- how many documents have texts
abbrev pub stored : PieceHead → ℕ
stored head = if head.save then vec_len head.references else 0

-- each field has a length for each reference
abbrev pub FitLengths : PieceHead → Type 0
FitLengths head = (vec_len head.lengths ≡ vec_len head.fields)
    × All (λ column. vec_len column ≡ vec_len head.references) head.lengths.items

-- no piece of the texts is empty, and together they have the documents that have texts
abbrev pub FitTexts : PieceHead → Type 0
FitTexts head = All (λ count. count ≢ 0) head.texts.items × (sum head.texts.items ≡ stored head)

-- so with the titles, if there are any
abbrev pub FitTitles : PieceHead → Type 0
FitTitles head = All (λ count. count ≢ 0) head.titles.items
    × ((sum head.titles.items ≡ 0) ⊎ (sum head.titles.items ≡ stored head))

-- there is a size for each piece
abbrev pub FitSizes : PieceHead → Type 0
FitSizes head = vec_len head.sizes
    ≡ (vec_len head.tries + vec_len head.texts) + vec_len head.titles

-- the numbers of what a head has fit together
pub record FitNumbers (head : PieceHead) : Type 0 where
  pub lengths : FitLengths head
  pub texts : FitTexts head
  pub titles : FitTitles head
  pub sizes : FitSizes head

-- what a head says fits together: the fields differ, references and first tokens rise, and there
-- are as many lengths, documents and sizes as there have to be
pub record Fits (head : PieceHead) : Type 0 where
  pub fields : AllPairs (λ name other. name ≢ other) (bytes_of head.fields.items)
  pub references : IsStrictlySortedBy text_cmp (bytes_of head.references.items)
  pub tries : IsStrictlySortedBy text_cmp (bytes_of head.tries.items)
  pub numbers : FitNumbers head
