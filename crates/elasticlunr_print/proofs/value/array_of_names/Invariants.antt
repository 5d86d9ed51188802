use Rattle.std.proofs.Common.{◌≡◌, map, take, string_bytes}
use Rattle.serde_json.specs.View.{items_view}
use Rattle.elasticlunr_print.specs.Printed.{texts}
use Rattle.elasticlunr_print.proofs.value.array_of_names.Given as goal

abbrev pub invariant-loop-name : goal.invariant-loop-name
invariant-loop-name l = items_view l.values.items ≡ texts (map string_bytes (take l.name-index l.names))
