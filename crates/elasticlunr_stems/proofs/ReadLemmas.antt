-- Words that are read two at a time.
use Rattle.std.proofs.Common.{◌≡◌, ◌<◌, false, List, [], ◌∷◌, length, None, refl, arith, nat_eq, true≢false}
use Rattle.std.specs.Borrow.{Bor}
use Rattle.elasticlunr_error.specs.Text.{Text}
use Rattle.elasticlunr_stems.specs.Reading.{marks_in}
use Rattle.elasticlunr_stems.specs.Views.{texts}

pub marks-odd : (words : List (Bor Text)) → length words < 2 → nat_eq (length words) 0 ≡ false
    → marks_in (texts words) ≡ None
marks-odd [] h e = absurd (true≢false e)
marks-odd (w ∷ []) h e = refl
marks-odd (w ∷ v ∷ words) h e = absurd (omega arith)
