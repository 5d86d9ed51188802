use Rattle.std.proofs.Common.{◌≡◌, map, take}
use Rattle.elasticlunr.specs.Builder.{chosen}
use Rattle.elasticlunr.specs.Choices.{with_fields}
use Rattle.elasticlunr.proofs.builder.IndexBuilder.add_fields.Given as goal

abbrev pub invariant-loop-field : goal.invariant-loop-field
invariant-loop-field g l = chosen l.builder ≡ with_fields (map (λ name. name.now) (take l.field-index l.fields))
    (chosen l.fn.self)
