-- How one document, a removal or a compaction changes what an index holds.
use Rattle.std.specs.Prelude.{◌≡◌, ◌≢◌, ℕ, ◌≤◌, false, List, [], length, map, Option, None, Some}
use Rattle.std.specs.Prelude.{IsSome, IsSomeAnd, IfSome, slice_get, count_by, Contains, IsTrue, ◌↔◌}
use Rattle.std.specs.Prelude.{◌⊎◌, if◌then◌else◌}
use Rattle.std.specs.Option.{option_map_or}
use Rattle.std.specs.Str.{bytes_eq}
use Rattle.std.specs.FinMap as map
use Rattle.elasticlunr_error.specs.Text.{Text, Bytes}
use Rattle.elasticlunr_trie.specs.Table.{Table, knows, posting, IsPrefix}
use Rattle.elasticlunr_store.specs.Contents.{Contents, IsConsistent, length_at}
use Rattle.elasticlunr_commands.specs.Fields.{all_differ}
use Rattle.elasticlunr_commands.specs.History.{Document, Commands, ◌▸◌, add}
use Rattle.elasticlunr_commands.specs.Standing.{IsPosting, Plan, Holds}

-- the document has this reference, these values and these tokens
pub record IsMadeOf (document : Document) (reference : Bytes) (values : List Bytes)
    (tokens : List (Option (List Text))) : Type 0 where
  pub its_reference : document.reference ≡ reference
  pub its_values : map (λ given. given.value) document.given ≡ values
  pub its_tokens : map (λ given. given.tokens) document.given ≡ tokens

-- the table loses the postings of the reference
pub record TakesOut (old new : Table) (reference : Bytes) : Type 0 where
  pub known : (text : Text) → knows new text ≡ knows old text
  pub its_own : (token : Text) → posting new token reference ≡ None
  pub others : (token : Text) (other : Bytes) → other ≢ reference → posting new token other
      ≡ posting old token other

-- the postings stay; known are the empty text and what begins a token that has a posting
pub record IsCompacted (old new : Table) : Type 0 where
  pub known : (text : Text) → IsTrue (knows new text)
      ↔ ((text ≡ []) ⊎ ((token : Text) × (r : Bytes) × IsPrefix text token
      × IsSome (posting old token r)))
  pub postings : (token : Text) (r : Bytes) → posting new token r ≡ posting old token r

-- the text begins one of these tokens that is not empty
pub record BeginsOne (tokens : List Text) (text : Text) : Type 0 where
  pub token : Text
  pub not_empty : token ≢ []
  pub among : Contains tokens token
  pub begins : IsPrefix text token

-- the reference has the postings of these tokens and no others; what begins one of them is known
pub record ReplacesPostings (old new : Table) (reference : Bytes) (tokens : Option (List Text)) :
    Type 0 where
  pub known : (text : Text) → IsTrue (knows new text)
      ↔ (IsTrue (knows old text) ⊎ IsSomeAnd tokens (λ these. BeginsOne these text))
  pub its_own : (token : Text) → token ≢ []
      → IsPosting (option_map_or (count_by (bytes_eq token)) tokens 0)
      (posting new token reference)
  pub others : (token : Text) (other : Bytes) → other ≢ reference → posting new token other
      ≡ posting old token other
  pub no_empty : (r : Bytes) → posting old [] r ≡ None → posting new [] r ≡ None

-- a reference that has no texts has no postings and no lengths
pub record HasOnlyStored (tables : List Table) (contents : Contents) (reference : Bytes) : Type 0
  where
    pub postings : map.get contents.texts reference ≡ None → (i : ℕ)
        → IfSome (slice_get tables i) (λ table. (token : Text) → posting table token reference
        ≡ None)
    pub lengths : map.get contents.texts reference ≡ None → (field : Bytes)
        → length_at contents reference field ≡ None

-- the reference has no postings and no lengths, and what others have stays
pub record MakesRoom (reference : Bytes) (old_tables new_tables : List Table) (old new : Contents) :
    Type 0 where
  pub tables : (i : ℕ) (before after : Table) → slice_get old_tables i ≡ Some before
      → slice_get new_tables i ≡ Some after → TakesOut before after reference
  pub kept : IsConsistent old → IsConsistent new
  pub save : new.save ≡ old.save
  pub texts : (r : Bytes) → bytes_eq r reference ≡ false → map.get new.texts r ≡ map.get old.texts r
  pub lengths : (r field : Bytes) → length_at new r field
      ≡ (if bytes_eq r reference then None else length_at old r field)

-- each field's table has the tokens at its place for a reference that had none there, and the
-- tables past them stay
pub record AddsTokens (reference : Bytes) (tokens : List (Option (List Text)))
    (old_tables new_tables : List Table) : Type 0 where
  pub as_many : length new_tables ≡ length old_tables
  pub with_tokens : (i : ℕ) (before after : Table) (these : Option (List Text))
      → slice_get old_tables i ≡ Some before → slice_get new_tables i ≡ Some after
      → slice_get tokens i ≡ Some these
      → ((token : Text) → posting before token reference ≡ None)
      → ReplacesPostings before after reference these
  pub without_tokens : (i : ℕ) → length tokens ≤ i → slice_get new_tables i ≡ slice_get old_tables i

-- whatever was held of an index of these fields, now that is held with the document after it that
-- has this reference, these values and these tokens
abbrev pub HoldsOneMore : (fields : List Bytes) (reference_field reference : Bytes)
    (values : List Bytes) (tokens : List (Option (List Text))) (old_tables : List Table)
    (old : Contents) (new_tables : List Table) (new : Contents) → Type 0
HoldsOneMore fields reference_field reference values tokens old_tables old new_tables new =
    (plan : Plan) (document : Document) (commands : Commands) → plan.fields ≡ fields
    → IsTrue (all_differ plan.fields) → plan.reference_field ≡ reference_field
    → IsMadeOf document reference values tokens → Holds plan commands old_tables old
    → Holds plan (commands ▸ add document) new_tables new
