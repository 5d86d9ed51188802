-- Tokens with how often they stand, and the postings that these make.
use Rattle.std.specs.Prelude.{◌≡◌, ◌≢◌, ℕ, List, [], ◌∷◌, ⊤, map, Some, IsSomeAnd, IsTrue}
use Rattle.std.specs.Prelude.{Option, slice_get, unwrap_or, count_by, ◌↔◌, ◌⊎◌, String, string_bytes}
use Rattle.std.specs.Map.{lookup}
use Rattle.std.specs.Str.{bytes_eq}
use Rattle.std.specs.declared.alloc.Global.{Global}
use Rattle.elasticlunr_error.specs.Text.{Text, Bytes, text_of}
use Rattle.elasticlunr_trie.specs.Table.{Table, knows, posting, IsPrefix}
use Rattle.elasticlunr_commands.specs.Root.{IsRoot}
use Rattle.elasticlunr_state.specs.declared.counts.Counts.{Counts}
use Rattle.elasticlunr_state.specs.declared.counts.Counts.TheVariants.{Hashed, Ordered}

-- it stands in the list
abbrev pub StandsIn : {A : Type 0} → List A → A → Type 0
StandsIn xs x = (i : ℕ) × (slice_get xs i ≡ Some x)

-- strings with their counts, as texts with their counts
abbrev pub counted_texts : List (String Global × ℕ) → List (Text × ℕ)
counted_texts entries = map (λ e. (text_of e.0, e.1)) entries

-- as many tokens, each with the root of its count
abbrev pub AreRooted : List (Text × ℕ) → List (Text × ℕ) → Type 0
AreRooted [] [] = ⊤
AreRooted [] (m ∷ ms) = ⊥
AreRooted (n ∷ ns) [] = ⊥
AreRooted (n ∷ ns) (m ∷ ms) = (m.0 ≡ n.0) × IsRoot n.1 m.1 × AreRooted ns ms

-- what the map that counts has
abbrev pub entries_of : Counts → List (String Global × ℕ)
entries_of (Hashed counts) = counts.entries
entries_of (Ordered counts) = counts.entries

-- the count at a text
abbrev pub count_at : List (String Global × ℕ) → Bytes → Option ℕ
count_at entries text = lookup (λ token. bytes_eq text (string_bytes token)) entries

-- what is found at a text is how often it stands among the tokens
pub record AreCounts (tokens : List (String Global)) (found : Bytes → Option ℕ) : Type 0 where
  pub counted : (text : Bytes) → unwrap_or (found text) 0
      ≡ count_by (λ token. bytes_eq text (string_bytes token)) tokens
  pub positive : (text : Bytes) → found text ≢ Some 0

-- the text begins a counted token that is not empty
pub record BeginsCounted (counts : List (Text × ℕ)) (text : Text) : Type 0 where
  pub token : Text
  pub count : ℕ
  pub not_empty : token ≢ []
  pub among : StandsIn counts (token, count)
  pub begins : IsPrefix text token

-- the token is counted, and posted with the root of a count of it
pub record IsPosted (counts : List (Text × ℕ)) (new : Table) (reference : Bytes) (token : Text) :
    Type 0 where
  pub count : ℕ
  pub among : StandsIn counts (token, count)
  pub rooted : IsSomeAnd (posting new token reference) (IsRoot count)

-- the token is not counted, and posted as it was
pub record IsLeft (counts : List (Text × ℕ)) (old new : Table) (reference : Bytes) (token : Text) :
    Type 0 where
  pub absent : (count : ℕ) → ¬ StandsIn counts (token, count)
  pub as_before : posting new token reference ≡ posting old token reference

-- the counted tokens that are not empty are posted for the reference, and what begins one of them
-- is known
pub record Posts (old new : Table) (reference : Bytes) (counts : List (Text × ℕ)) : Type 0 where
  pub known : (text : Text) → IsTrue (knows new text)
      ↔ (IsTrue (knows old text) ⊎ BeginsCounted counts text)
  pub its_own : (token : Text) → token ≢ [] → IsPosted counts new reference token
      ⊎ IsLeft counts old new reference token
  pub others : (token : Text) (other : Bytes) → other ≢ reference → posting new token other
      ≡ posting old token other
  pub no_empty : (r : Bytes) → posting new [] r ≡ posting old [] r
