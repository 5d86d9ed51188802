-- The entries of a map of postings, by the bytes of their keys.
use Rattle.std.proofs.Common.{◌≡◌, ℕ, List, string_cmp}
use Rattle.std.specs.List.Sorted.{IsStrictlySortedBy}
use Rattle.std.specs.Map.{keys_of}
use Rattle.std.specs.FinMap as map
use Rattle.elasticlunr_error.specs.Text.{Bytes}
use Rattle.elasticlunr_trie_nodes.specs.Table.{Entries, postings_of}
use Rattle.elasticlunr_json.proofs.Sorted as sorted

abbrev pub bytes_of : Entries → List (Bytes × ℕ)
bytes_of es = sorted.shown (λ n. n) es

-- the entries of a map stand in order
pub sorted_entries : (es : Entries) → IsStrictlySortedBy string_cmp (keys_of es) → map.entries (postings_of es)
    ≡ bytes_of es
sorted_entries es h = sorted.entries_seen (λ n. n) es h
