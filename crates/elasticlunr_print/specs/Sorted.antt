-- The tries of the fields in the order of the fields' names, and their JSON members; for private
-- clauses.
use Rattle.std.specs.Prelude.{◌≡◌, List, [], ◌∷◌, ◌++◌, Option, None, Some, option_map}
use Rattle.std.specs.Prelude.{if◌then◌else◌}
use Rattle.std.specs.List.{zip}
use Rattle.std.specs.Str.{bytes_eq}
use Rattle.std.specs.Borrow.{Bor}
use Rattle.std.specs.BTreeMap.{BTreeMap, IsOrdered, get_by}
use Rattle.json.specs.Token.{Token}
use Rattle.json.specs.Tree.{json_tokens}
use Rattle.serde_json.specs.Data.{object, Members, no_members, member}
use Rattle.serde_json.specs.Written.{outline}
use Rattle.elasticlunr_error.specs.Text.{Bytes, text_cmp}
use Rattle.elasticlunr_trie.specs.Table.{Table, IsTable}
use Rattle.elasticlunr_trie.specs.Tree.{IsTrieValue}

-- the last table under the name in these pairs, and else the one that is given
abbrev pub last_under : Bytes → Option Table → List (Bytes × Table) → Option Table
last_under q given [] = given
last_under q given (pair ∷ pairs) = last_under q (if bytes_eq pair.0 q then Some pair.1 else given)
    pairs

-- the map finds under each name the last of the tables
abbrev pub IsByName : List Bytes → List Table → BTreeMap (Bor Bytes) (Bor Table) → Type 0
IsByName names tables m = (q : Bytes) → option_map (λ t. t.now) (get_by (λ k. text_cmp q k.now) m)
    ≡ last_under q None (zip names tables)

-- each member is the trie value of the entry at its place, under the entry's name
abbrev pub AreMembersOf : List (Bor Bytes × Bor Table) → Members → Type 0
AreMembersOf [] no_members = Unit {0}
AreMembersOf [] (member k d ms) = ⊥
AreMembersOf (e ∷ es) no_members = ⊥
AreMembersOf (e ∷ es) (member k d ms) = (k ≡ e.0.now) × IsTrieValue e.1.now d × IsTable e.1.now
    × AreMembersOf es ms

-- the new tokens are those of an object that has the trie values of the map
abbrev pub WritesTries : BTreeMap (Bor Bytes) (Bor Table) → List Token → List Token → Type 0
WritesTries m old new = (ms : Members) × AreMembersOf m.entries ms
    × IsOrdered (λ k l. text_cmp k.now l.now) m × (new ≡ old ++ json_tokens (outline (object ms)))
