use Rattle.std.proofs.Common.{◌≡◌, map, take}
use Rattle.std.specs.List.{zip}
use Rattle.elasticlunr_error.specs.Text.{bytes_of}
use Rattle.elasticlunr_store.specs.Options.{options_of}
use Rattle.elasticlunr_ranking.specs.Choice.{fields_for}
use Rattle.elasticlunr_ranking.specs.Fields.{field_of}
use Rattle.elasticlunr_ranking.proofs.choice.searched_fields.Given as goal

-- those that are searched so far
abbrev pub invariant-loop-i : goal.invariant-loop-i
invariant-loop-i l = map field_of l.fields.items
    ≡ fields_for (options_of l.options) l.store (take l.i (zip (bytes_of l.names) l.tries))
