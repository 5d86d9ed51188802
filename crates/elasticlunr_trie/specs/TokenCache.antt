-- Where tokens lead, as a trie remembers it; for private clauses.
use Rattle.std.specs.Prelude.{◌≡◌, ◌≢◌, Some, All, take}
use Rattle.std.specs.Str.{chars}
use Rattle.elasticlunr_trie_nodes.specs.Trie.{Step, walk}
use Rattle.elasticlunr_trie_nodes.specs.declared.nodes.Place.TheVariants.{Root, At}
use Rattle.elasticlunr_trie.specs.declared.inverted_index.ends.CachedToken.{CachedToken}
use Rattle.elasticlunr_trie.specs.declared.inverted_index.ends.TokenCache.{TokenCache}

-- a token in a slot that is taken leads to its node
abbrev pub IsEnd : Step → CachedToken → Type 0
IsEnd step end = end.length ≢ 0 → walk step Root (chars (take end.length end.text))
    ≡ Some (At end.node)

-- each token that is remembered does
abbrev pub AreEnds : Step → TokenCache → Type 0
AreEnds step ends = All (IsEnd step) ends.slots.items
