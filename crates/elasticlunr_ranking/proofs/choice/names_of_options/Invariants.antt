use Rattle.std.proofs.Common.{◌≡◌, List, ◌++◌, map, String, Global, string_bytes}
use Rattle.std.specs.Map.{keys_of}
use Rattle.elasticlunr_store.specs.declared.config.SearchOptionsField.{SearchOptionsField}
use Rattle.elasticlunr_ranking.proofs.choice.names_of_options.Given as goal

-- the names that were read
abbrev pub invariant-loop-name : goal.invariant-loop-name
invariant-loop-name l = (done : List (String Global × SearchOptionsField))
    × (done ++ l.name-iterator ≡ l.options.fields.entries)
    × (map (λ name. name.now) l.names.items ≡ map string_bytes (keys_of done))
