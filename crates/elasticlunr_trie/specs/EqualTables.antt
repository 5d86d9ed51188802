-- What the test of equality of two tables decides.
use Rattle.std.proofs.Common.{◌≡◌, nat_eq}
use Rattle.std.specs.Bool.{Decides}
use Rattle.std.specs.Cmp.{IsEquivalence, decided}
use Rattle.elasticlunr_json.specs.Maps.{same_map}
use Rattle.elasticlunr_json.specs.EqualMaps.{map_Decides, nat_Decides}
use Rattle.elasticlunr_trie_nodes.specs.Table.{Table, same_tables}

pub tables_Decides : (T U : Table) → Decides (same_tables T U) (T ≡ U)
tables_Decides T U = map_Decides (same_map nat_eq) (map_Decides nat_eq nat_Decides) T U

pub tables_equivalence : IsEquivalence same_tables
tables_equivalence = decided same_tables tables_Decides
