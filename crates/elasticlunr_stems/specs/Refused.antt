-- The texts of the refusals.
use Rattle.std.specs.Prelude.{ℕ, List, codes}
use Rattle.elasticlunr_stems.specs.declared.error.TableError.{TableError}
use Rattle.elasticlunr_stems.specs.declared.error.TableError.TheVariants.{NoTable, NotSafe, Memory}

-- what is printed of a refusal
abbrev pub refusal_text : TableError → List ℕ
refusal_text NoTable = codes "no table of a stemmer"
refusal_text NotSafe = codes "a step is not what the table declares of it"
refusal_text Memory = codes "out of memory"
