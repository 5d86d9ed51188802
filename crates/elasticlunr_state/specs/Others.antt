-- What a change for one reference leaves.
use Rattle.std.specs.Prelude.{◌≡◌, ◌≢◌, ℕ, List, Some, length, slice_get, IsTrue}
use Rattle.std.specs.FinMap.{get}
use Rattle.elasticlunr_error.specs.Text.{Text, Bytes}
use Rattle.elasticlunr_trie.specs.Table.{Table, knows, posting}
use Rattle.elasticlunr_store.specs.Contents.{Contents, length_at}

-- every other reference keeps its postings, and known texts stay known
pub record OthersStayIn (reference : Bytes) (old new : Table) : Type 0 where
  pub postings : (token : Text) (other : Bytes) → other ≢ reference → posting new token other
      ≡ posting old token other
  pub known : (text : Text) → IsTrue (knows old text) → IsTrue (knows new text)

-- every other reference keeps what it has in each table, its texts and its lengths; there are as
-- many tables
pub record OthersStay (reference : Bytes) (old_tables new_tables : List Table) (old new : Contents)
    : Type 0 where
  pub as_many : length new_tables ≡ length old_tables
  pub tables : (i : ℕ) (before after : Table) → slice_get old_tables i ≡ Some before
      → slice_get new_tables i ≡ Some after → OthersStayIn reference before after
  pub save : new.save ≡ old.save
  pub texts : (other : Bytes) → other ≢ reference → get new.texts other ≡ get old.texts other
  pub lengths : (other field : Bytes) → other ≢ reference → length_at new other field
      ≡ length_at old other field
