-- The output of a pipeline for the tokens of a text.
use Rattle.std.specs.Prelude.{List, Option, IsTrue}
use Rattle.std.specs.List.{AllByRecursion}
use Rattle.std.specs.Str.{all_scalars}
use Rattle.elasticlunr_text.specs.Text.{Text}
use Rattle.elasticlunr_text.specs.Stages.{IsRunBy}
use Rattle.elasticlunr_text.specs.declared.pipeline.run.Pipeline.{Pipeline}

module _ {f : Type 0} {x : Type 0} {p : x → Type 0} {calls : _} where
  -- the tokens are texts, and the pipeline may make these texts of them
  abbrev pub IsReadAs : (leaves : (v : x) × p v → Text → Option Text) → Pipeline f x p calls
      → List Text → List Text → Type 0
  IsReadAs leaves pipeline tokens texts = AllByRecursion (λ token. IsTrue (all_scalars token))
      tokens × IsRunBy leaves pipeline tokens texts
