-- the values so far are the first ones
use Rattle.std.proofs.Common.{◌≡◌, map, take}
use Rattle.elasticlunr_flat.specs.Told.{value_told}
use Rattle.elasticlunr_c_calls.specs.Carried.{field_told}
use Rattle.elasticlunr_c_calls.proofs.documents.values_of.Given as goal

abbrev pub invariant-loop-value : goal.invariant-loop-value
invariant-loop-value l = map field_told l.fields.items ≡ map value_told (take l.value-index l.values)
