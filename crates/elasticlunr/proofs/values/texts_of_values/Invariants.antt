-- the texts so far are those of the first values
use Rattle.std.proofs.Common.{◌≡◌, take}
use Rattle.elasticlunr_commands.specs.Fields.{borrowed}
use Rattle.elasticlunr.specs.GivenTokens.{value_texts}
use Rattle.elasticlunr.proofs.values.texts_of_values.Given as goal

abbrev pub invariant-loop-value : goal.invariant-loop-value
invariant-loop-value l = borrowed l.texts.items ≡ value_texts (take l.value-index l.values)
