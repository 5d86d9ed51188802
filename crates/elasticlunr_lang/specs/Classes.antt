-- Languages with a trimmer of a class and stop words.
use Rattle.std.specs.Prelude.{◌≡◌, ℕ, Bool, List, [], ◌∷◌, ◌++◌, Option, Some, None}
use Rattle.std.specs.Prelude.{option_and_then, codes, if◌then◌else◌}
use Rattle.elasticlunr_text.specs.Text.{Text, Bytes, is_listed}
use Rattle.elasticlunr_text.specs.Trimmed.{trimmed, unless_empty}

-- the token, unless it is listed
abbrev pub unless_listed : List Text → Text → Option Text
unless_listed words token = if is_listed token words then None else Some token

-- the names of the two stages, which end with the language's code
abbrev pub class_stages : Bytes → List Bytes
class_stages code = (codes "trimmer-" ++ code) ∷ (codes "stopWordFilter-" ++ code) ∷ []

-- the token is cut to its class; it is dropped if nothing is left, or a stop word
abbrev pub class_leaves : (ℕ → Bool) → List Text → Text → Option Text → Type 0
class_leaves in_class words token left = left
    ≡ option_and_then (unless_listed words) (unless_empty (trimmed in_class token))
