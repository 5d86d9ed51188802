-- What a custom function may answer.
use Rattle.std.specs.Prelude.{◌≡◌, ℕ, List, Option, option_map, Ok}
use Rattle.std.specs.declared.string.String.{String}
use Rattle.std.specs.declared.alloc.Global.{Global}
use Rattle.elasticlunr_text.specs.Text.{text_of}
use Rattle.elasticlunr_text.specs.declared.pipeline.function.FnWrapper.{FnWrapper}

-- some call of the wrapper's function at a string with this text may give this
abbrev pub MayAnswer : {f calls : _} → FnWrapper f calls → List ℕ → Option (List ℕ) → Type 0
MayAnswer {calls = calls} wrapper token left =
    (alloc : Global) × (s : String Global) × (answer : Option (String Global)) × (text_of s ≡ token)
    × (option_map text_of answer ≡ left)
    × calls.post wrapper.function (alloc, (s, tt)) (Ok answer)
