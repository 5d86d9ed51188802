-- What an index holds after commands.
use Rattle.std.specs.Prelude.{◌≡◌, ◌≢◌, ℕ, zero, suc, List, [], ◌∷◌, ◌++◌, length, map, Bool}
use Rattle.std.specs.Prelude.{Option, None, Some, IsSomeAnd, IfSome, IsTrue, option_map}
use Rattle.std.specs.Prelude.{option_and_then, slice_get, count_by, Contains, ◌↔◌, ◌⊎◌}
use Rattle.std.specs.Prelude.{if◌then◌else◌}
use Rattle.std.specs.Option.{option_map_or}
use Rattle.std.specs.List.{zip}
use Rattle.std.specs.Str.{bytes_eq}
use Rattle.std.specs.FinMap as map
use Rattle.elasticlunr_error.specs.Text.{Text, Bytes}
use Rattle.elasticlunr_trie.specs.Table.{Table, knows, posting, IsPrefix}
use Rattle.elasticlunr_store.specs.Contents.{Contents, TextMap, IsConsistent, length_at}
use Rattle.elasticlunr_commands.specs.Root.{IsRoot}
use Rattle.elasticlunr_commands.specs.History.{Given, Document, add, remove, compact, Commands}
use Rattle.elasticlunr_commands.specs.History.{none, ◌▸◌, now}

-- how an index is built, as far as it is printed
pub record Plan : Type 0 where
  pub fields : List Bytes
  pub reference_field : Bytes
  pub save : Bool
  pub language : Bytes
  pub stages : List Bytes

-- the tokens of a document for the field of this number
abbrev pub tokens_at : ℕ → Document → Option (List Text)
tokens_at i d = option_and_then (λ given. given.tokens) (slice_get d.given i)

-- the document was current at the last compaction, or was added after it
abbrev pub Counts : Commands → Document → Type 0
Counts none d = ⊥
Counts (commands ▸ add e) d = (e ≡ d) ⊎ Counts commands d
Counts (commands ▸ remove r) d = Counts commands d
Counts (commands ▸ compact) d = now commands d.reference ≡ Some d

-- the text begins a token that such a document has for the field
pub record Begins (commands : Commands) (i : ℕ) (text : Text) : Type 0 where
  pub document : Document
  pub token : Text
  pub counts : Counts commands document
  pub has : IsSomeAnd (tokens_at i document) (λ tokens. Contains tokens token)
  pub begins : IsPrefix text token

-- how often the token stands in the field of the reference's current document
abbrev pub occurrences : Commands → ℕ → Text → Bytes → ℕ
occurrences commands i token r = option_map_or (count_by (bytes_eq token))
    (option_and_then (tokens_at i) (now commands r)) 0

-- the posting of a token that stands there so often: the root of that, and none of 0
abbrev pub IsPosting : ℕ → Option ℕ → Type 0
IsPosting zero posted = posted ≡ None
IsPosting (suc n) posted = IsSomeAnd posted (IsRoot (suc n))

-- the table of the field of this number
pub record IsTableOf (commands : Commands) (i : ℕ) (table : Table) : Type 0 where
  pub known : (text : Text) → IsTrue (knows table text) ↔ ((text ≡ []) ⊎ Begins commands i text)
  pub postings : (token : Text) (r : Bytes) → token ≢ []
      → IsPosting (occurrences commands i token r) (posting table token r)
  pub no_empty : (r : Bytes) → posting table [] r ≡ None

-- what is stored of a document: each given field with its value, and the reference field with the
-- reference where no field has that name
abbrev pub stored : Plan → Document → TextMap
stored plan d = if plan.save then map.from_entries
    (zip plan.fields (map (λ given. given.value) d.given) ++ (plan.reference_field, d.reference)
    ∷ []) else map.empty

-- the length of a field of a document
abbrev pub length_in : List Bytes → List Given → Bytes → Option ℕ
length_in [] givens field = None
length_in (f ∷ fields) [] field = None
length_in (f ∷ fields) (given ∷ givens) field = if bytes_eq field f then option_map length
    given.tokens else length_in fields givens field

-- the store's contents
pub record IsContentsOf (plan : Plan) (commands : Commands) (contents : Contents) : Type 0 where
  pub are_contents : IsConsistent contents
  pub save : contents.save ≡ plan.save
  pub texts : (r : Bytes) → map.get contents.texts r ≡ option_map (stored plan) (now commands r)
  pub lengths : (r field : Bytes) → length_at contents r field
      ≡ option_and_then (λ d. length_in plan.fields d.given field) (now commands r)

-- the tables of the fields, in order, and the contents of the store
pub record Holds (plan : Plan) (commands : Commands) (tables : List Table) (contents : Contents) :
    Type 0 where
  pub one_each : length tables ≡ length plan.fields
  pub each : (i : ℕ) → IfSome (slice_get tables i) (IsTableOf commands i)
  pub store : IsContentsOf plan commands contents
