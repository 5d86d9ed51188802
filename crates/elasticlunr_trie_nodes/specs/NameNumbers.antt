-- A map from names to their numbers, and frequencies under names; for private clauses.
use Rattle.std.specs.Prelude.{◌≡◌, ◌≢◌, ℕ, Some, String, bytes_eq}
use Rattle.std.specs.Map.{update}
use Rattle.std.specs.BTreeMap.{BTreeMap, get_by_text}
use Rattle.std.specs.declared.alloc.Global.{Global}
use Rattle.elasticlunr_error.specs.Text.{Bytes}
use Rattle.elasticlunr_trie_nodes.specs.Frequencies.{Frequencies}
use Rattle.elasticlunr_trie_nodes.specs.Names.{Names, number_of, at}

-- the map has the number of each name, and nothing else
abbrev pub HasNumbersOf : Names → BTreeMap (String Global) ℕ → Type 0
HasNumbersOf names numbers = (r : Bytes) → get_by_text numbers r ≡ number_of names r

-- new has the number under the name, and under each other name what old has
abbrev pub GainsNumber : BTreeMap (String Global) ℕ → BTreeMap (String Global) ℕ → Bytes → ℕ
    → Type 0
GainsNumber old new name number = (r : Bytes) → get_by_text new r
    ≡ update bytes_eq (λ q. get_by_text old q) name (Some number) r

-- each reference but r has the frequency that it had
abbrev pub KeepsOtherFrequencies : Names → Frequencies → Names → Frequencies → Bytes → Type 0
KeepsOtherFrequencies names P names2 P2 r = (q : Bytes) → q ≢ r → at names2 q P2 ≡ at names q P
