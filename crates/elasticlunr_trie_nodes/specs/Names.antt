-- The names of a trie's references, in the order of their numbers.
use Rattle.std.specs.Prelude.{◌≡◌, ◌<◌, ℕ, suc, List, [], ◌∷◌, ◌++◌, map, length, slice_get}
use Rattle.std.specs.Prelude.{slice_index, slice_index_or, Option, Some, None, is_some, option_map}
use Rattle.std.specs.Prelude.{option_and_then, ◌≤◌, if◌then◌else◌, String, string_bytes, bytes_eq}
use Rattle.std.specs.Str.{IsUtf8}
use Rattle.std.specs.FinMap.{get, from_entries}
use Rattle.std.specs.declared.cmp.Ordering.TheVariants.{Less}
use Rattle.elasticlunr_error.specs.Text.{Bytes, text_cmp}
use Rattle.elasticlunr_trie_nodes.specs.Table.{Postings}
use Rattle.elasticlunr_trie_nodes.specs.Pairs.{Pairs, key_at, IsStrictlySorted}
use Rattle.elasticlunr_trie_nodes.specs.Frequencies.{Frequencies}
use Rattle.std.specs.declared.alloc.Global.{Global}

-- each name at the place that its number gives
abbrev pub Names : Type 0
Names = List Bytes

-- the number of the name r, if it has one
abbrev pub number_of : Names → Bytes → Option ℕ
number_of [] r = None
number_of (name ∷ names) r = if bytes_eq name r then Some 0 else option_map suc (number_of names r)

-- the names, with r after them if it is new
abbrev pub entered : Names → Bytes → Names
entered names r = if is_some (number_of names r) then names else names ++ r ∷ []

-- the names as strings
abbrev pub names_of : List (String Global) → Names
names_of strings = map string_bytes strings

-- no name comes twice: the number of each is its place
abbrev pub AreDistinct : Names → Type 0
AreDistinct names = (n : ℕ) (r : Bytes) → slice_get names n ≡ Some r → number_of names r ≡ Some n

-- no name comes twice, and each is a text
pub record AreNames (names : Names) : Type 0 where
  pub distinct : AreDistinct names
  pub texts : (n : ℕ) (r : Bytes) → slice_get names n ≡ Some r → IsUtf8 r

-- each posting is that of a number with a name
abbrev pub AreNumbered : Names → Frequencies → Type 0
AreNumbered names P = (n f : ℕ) → get P n ≡ Some f → n < length names

-- the frequency that the reference r has among postings
abbrev pub at : Names → Bytes → Frequencies → Option ℕ
at names r P = option_and_then (λ n. get P n) (number_of names r)

-- new has the names of old under the same numbers, so postings under these numbers stay what they
-- are
pub record Extends (old new : Names) : Type 0 where
  pub more : length old ≤ length new
  pub same : (P : Frequencies) → AreNumbered old P → (r : Bytes) → at new r P ≡ at old r P

-- pairs of a number and a value, under the names of the numbers
abbrev pub under_names : Names → Pairs → List (Bytes × ℕ)
under_names names l = map (λ p. (slice_index_or names p.0 [], p.1)) l

-- pairs in the order of their numbers, each of which has a name
pub record ArePostings (names : Names) (l : Pairs) : Type 0 where
  pub sorted : IsStrictlySorted l
  pub there : (i : ℕ) → i < length l → key_at l i < length names

-- what pairs represent, under the names of their numbers
abbrev pub named_pairs : Names → Pairs → Postings
named_pairs names l = from_entries (under_names names l)

-- each number stands in the order of ranks where its name stands in the order of names
pub record AreRanks (names : Names) (ranks : List ℕ) : Type 0 where
  pub count : length ranks ≡ length names
  pub apart : (m n : ℕ) → m < length names → n < length names → slice_index ranks m
      ≡ slice_index ranks n → m ≡ n
  pub rising : (m n : ℕ) → m < length names → n < length names
      → slice_index ranks m < slice_index ranks n → text_cmp (slice_index_or names m [])
      (slice_index_or names n []) ≡ Less

-- each number has a name
abbrev pub AreThere : Names → List (ℕ × ℕ × ℕ) → Type 0
AreThere names l = (i : ℕ) → i < length l → let e = slice_index_or l i (0, 0, 0) in e.1 < length
    names

-- the entries of a map from names to numbers
abbrev pub Numbers : Type 0
Numbers = List (String Global × ℕ)

-- the number of the entry at place i
abbrev pub number_at : Numbers → ℕ → ℕ
number_at es i = slice_index (map (λ e. e.1) es) i

-- the numbers are below count
abbrev pub HasNumbersBelow : Numbers → ℕ → Type 0
HasNumbersBelow es count = (i : ℕ) → i < length es → number_at es i < count

-- no number comes twice
abbrev pub HasDistinctNumbers : Numbers → Type 0
HasDistinctNumbers es = (i j : ℕ) → i < length es → j < length es → number_at es i ≡ number_at es j
    → i ≡ j

-- the places of the first entries stand under their numbers
abbrev pub HasRanks : Numbers → List ℕ → ℕ → Type 0
HasRanks es ranks count = (i : ℕ) → i < count → slice_index ranks (number_at es i) ≡ i
