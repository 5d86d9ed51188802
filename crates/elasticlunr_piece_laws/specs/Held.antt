-- What tries have of some pieces of an index.
use Rattle.std.specs.Prelude.{◌≡◌, ◌<◌, ◌||◌, ℕ, Bool, false, cond, List, [], ◌∷◌, None, length, map}
use Rattle.std.specs.Prelude.{slice_index_or}
use Rattle.std.specs.Str.{chars}
use Rattle.elasticlunr_error.specs.Text.{Text, Bytes, is_listed}
use Rattle.elasticlunr_store.specs.Contents.{Contents, field_length}
use Rattle.elasticlunr_trie.specs.Table.{Table, posting}
use Rattle.std.specs.FinMap.{len}

-- a text is the characters of one of these tokens
abbrev pub is_one_of : List Bytes → Text → Bool
is_one_of tokens text = is_listed text (map chars tokens)

-- it is that of a token of one of the groups with these numbers
abbrev pub stands_in_one : (groups : List (List Bytes)) → (numbers : List ℕ) → Text → Bool
stands_in_one groups [] text = false
stands_in_one groups (n ∷ ns) text =
    is_one_of (slice_index_or groups n []) text || stands_in_one groups ns text

-- of the postings of each table, another one has those of the tokens that stand in these groups
pub record HavePostingsOf (groups : List (List Bytes)) (numbers : List ℕ)
    (tables others : List Table) : Type 0 where
  pub many : length others ≡ length tables
  pub each : (i : ℕ) (d : Table) → i < length tables → (text : Text) (reference : Bytes)
      → posting (slice_index_or others i d) text reference
      ≡ cond (stands_in_one groups numbers text)
      (posting (slice_index_or tables i d) text reference) None

-- the contents have as many documents as others, with the same lengths; their texts don't count
pub record HasDocumentsOf (contents others : Contents) : Type 0 where
  pub documents : len others.texts ≡ len contents.texts
  pub lengths : (reference field : Bytes)
      → field_length others reference field ≡ field_length contents reference field
