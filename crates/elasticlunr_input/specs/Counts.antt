-- What an index holds, counted.
use Rattle.std.specs.Prelude.{◌≡◌, ℕ, Bool, not, List, length, filter, nat_lt}
use Rattle.std.specs.List.{list_any}
use Rattle.std.specs.FinMap.{len}
use Rattle.elasticlunr_text.specs.Text.{Bytes, bytes_of}
use Rattle.elasticlunr_trie.specs.Table.{Table}
use Rattle.elasticlunr_store.specs.Contents.{Contents, field_length}
use Rattle.elasticlunr.specs.History.{Commands}
use Rattle.elasticlunr.specs.Standing.{Plan, Holds}
use Rattle.elasticlunr_pieces.specs.Entries.{AreTokens, references}
use Rattle.elasticlunr_input.specs.declared.counts.Counts as declared
use Rattle.elasticlunr_input.specs.declared.notes.Notes.{Notes}

-- these contents have so many documents, and these tables so many tokens, each counted once
pub record AreCountsOf (tables : List Table) (kept : Contents) (documents tokens : ℕ) : Type 0 where
  pub documents_are : documents ≡ len kept.texts
  pub tokens_are : (all : List Bytes) × AreTokens tables all × (tokens ≡ length all)

-- the document of this reference has a token in one of these fields
abbrev pub has_token : List Bytes → Contents → Bytes → Bool
has_token fields kept reference = list_any (λ field. nat_lt 0 (field_length kept reference field))
    fields

-- the documents that have no token in these fields, by their references, in order
abbrev pub without_token : List Bytes → Contents → List Bytes
without_token fields kept = filter (λ reference. not (has_token fields kept reference))
    (references kept)

-- an index of this plan that represents these commands has so many documents and tokens
abbrev pub HasCounts : Plan → Commands → (documents tokens : ℕ) → Type 0
HasCounts plan commands documents tokens = (tables : List Table) × (kept : Contents)
    × Holds plan commands tables kept × AreCountsOf tables kept documents tokens

-- these are the counts of such an index, and its documents without a token
abbrev pub AreCounts : Plan → Commands → declared.Counts → Type 0
AreCounts plan commands counts = (tables : List Table) × (kept : Contents)
    × Holds plan commands tables kept × AreCountsOf tables kept counts.documents counts.tokens
    × (bytes_of counts.without_token.items ≡ without_token plan.fields kept)

-- how many tokens were counted
abbrev pub token_count : Notes → ℕ
token_count notes = notes.tokens
