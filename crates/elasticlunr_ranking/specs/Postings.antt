-- Which documents tokens find in a field, in words of postings.
use Rattle.std.specs.Prelude.{◌≡◌, ◌≢◌, false, List, [], Contains, IsSome}
use Rattle.elasticlunr_error.specs.Text.{Text, Bytes}
use Rattle.elasticlunr_trie.specs.Table.{Table, posting}
use Rattle.elasticlunr_store.specs.declared.config.SearchBool.{SearchBool}
use Rattle.elasticlunr_store.specs.declared.config.SearchBool.TheVariants.{Or, And}
use Rattle.elasticlunr_ranking.specs.Fields.{Field}

-- the document has a posting at one of the tokens, or at each of them, of which there is at least
-- one
abbrev pub HasTokens : SearchBool → Table → List Text → Bytes → Type 0
HasTokens Or table tokens reference = (token : Text) × Contains tokens token
    × IsSome (posting table token reference)
HasTokens And table tokens reference = (tokens ≢ [])
    × ((token : Text) → Contains tokens token → IsSome (posting table token reference))

-- each token represents itself alone, and the field counts
abbrev pub IsPlain : Field → Type 0
IsPlain field = (field.expand ≡ false) × (field.boost ≢ 0)
