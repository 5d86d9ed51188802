-- On where a value stands.
use Rattle.std.proofs.Common.{◌≡◌, ◌<◌, ◌≤◌, ℕ, suc, List, length, get_or, drop, slice_range, Bool, true, false, Option}
use Rattle.std.proofs.Common.{Some, None, option_and_then, Result, Ok, Err, IfOk, if◌then◌else◌, is_some, true≢false}
use Rattle.std.proofs.Common.{sym, ap, ◌∙◌, drop-cons}
use Rattle.std.specs.declared.alloc.AllocError.{AllocError}
use Rattle.std.specs.Str.{is_utf8}
use Rattle.serde_json.specs.Data.{Data, depth}
use Rattle.serde_json.specs.Read.{max_depth, read}
use Rattle.serde_json.proofs.Nesting.{depth-read}
use Rattle.elasticlunr_error.specs.Text.{Bytes}
use Rattle.elasticlunr_job_format.specs.Reading.{reading}
use Rattle.elasticlunr_json_place.specs.Members.{Move, follow, move, move_told, part_of, path_told, value_of, HasValue}
use Rattle.elasticlunr_json_place.specs.declared.member.Step.{Step}
use Rattle.elasticlunr_json_place.proofs.Depths.{depth-follow}

-- what a part is read as is the value of the text
pub value_is : (line : Option ℕ) (text bytes : Bytes) (r : Option Data) → Some bytes ≡ part_of line text → reading bytes
    ≡ r → r ≡ value_of line text
value_is line text bytes r part is = sym is ∙ ap (option_and_then reading) part

-- the first step of the rest of a path
pub follow_step : (path : List Step) (i : ℕ) (past : Step) (d : Data) (r : Option Data) → i < length path → r
    ≡ move (move_told (get_or path i past)) d
    → follow (path_told (drop i path)) d ≡ option_and_then (follow (path_told (drop (suc i) path))) r
follow_step path i past d r below is =
    ap (λ p. follow (path_told p) d) (drop-cons path i past below)
    ∙ ap (option_and_then (follow (path_told (drop (suc i) path)))) (sym is)

not_none : (d : Data) → None ≡ Some d → ⊥
not_none d is = true≢false (ap is_some (sym is))

depth_if : (b : Bool) (bytes : Bytes) (d : Data) → (if b then read bytes else None) ≡ Some d → depth d ≤ max_depth
depth_if true bytes d is = depth-read bytes d is
depth_if false bytes d is = absurd (not_none d is)

depth-reading : (bytes : Bytes) (d : Data) → reading bytes ≡ Some d → depth d ≤ max_depth
depth-reading bytes d is = depth_if (is_utf8 bytes) bytes d is

depth_part : (part : Option Bytes) (d : Data) → option_and_then reading part ≡ Some d → depth d ≤ max_depth
depth_part (Some bytes) d is = depth-reading bytes d is
depth_part None d is = absurd (not_none d is)

module _ (line : Option ℕ) (path : List Move) (text : Bytes) (start end : ℕ) (bytes : Bytes) (found whole value : Data)
    (part : bytes ≡ slice_range text start end) (reads : Some found ≡ reading bytes) (all : Some whole
    ≡ value_of line text) (leads : Some value ≡ follow path whole) where
  there : found ≡ value → HasValue line path text start end
  there same = (
    value,
    ap (option_and_then (follow path)) (sym all) ∙ sym leads,
    ap reading (sym part)
        ∙ (sym reads ∙ ap Some same),
  )

  -- these bytes are read as what the path leads to, where the two are the same whenever they nest no deeper than a text
  -- may
  pub has_value : (r : Result Bool AllocError)
      → IfOk r (λ same. same ≡ true → depth found ≤ max_depth → depth value ≤ max_depth → found ≡ value)
      → IfOk r (λ has. has ≡ true → HasValue line path text start end)
  has_value (Ok b) same = λ yes. there (same yes (depth-reading bytes found (sym reads))
      (depth-follow path whole value max_depth (depth_part (part_of line text) whole (sym all)) (sym leads)))
  has_value (Err e) same = tt
