-- The table of a stemmer, and when a table is refused.
use Rattle.std.specs.Prelude.{◌≡◌, false, map, Option, Some, None}
use Rattle.elasticlunr_stems.specs.Tables.{Table}
use Rattle.elasticlunr_stems.specs.Safe.{are_safe}
use Rattle.elasticlunr_stems.specs.Views.{steps_of, mark_of}
use Rattle.elasticlunr_stems.specs.declared.error.TableError.{TableError}
use Rattle.elasticlunr_stems.specs.declared.error.TableError.TheVariants.{NoTable, NotSafe, Memory}
use Rattle.elasticlunr_stems.specs.declared.stemmer.Stemmer.{Stemmer}

abbrev pub table_of : Stemmer → Table
table_of stemmer = record {
  steps = steps_of stemmer.steps.items;
  before = stemmer.before;
  marks = map mark_of stemmer.marks.items;
  main = stemmer.main;
}

-- the table is not safe
abbrev pub IsUnsafe : Option Table → Type 0
IsUnsafe None = ⊥
IsUnsafe (Some table) = are_safe table.steps ≡ false

-- there is no table, or there is one that is not safe; memory may be refused at any time
abbrev pub Refuses : TableError → Option Table → Type 0
Refuses NoTable read = read ≡ None
Refuses NotSafe read = IsUnsafe read
Refuses Memory read = Unit {0}
