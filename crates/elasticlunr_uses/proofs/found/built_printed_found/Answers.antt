use Rattle.std.proofs.Common.{◌≢◌, ◌∷◌, [], codes, inr, refl}
use Rattle.elasticlunr.specs.AnyLanguage.TheVariants.{English as english}
use Rattle.elasticlunr.specs.Calls.{adding}
use Rattle.elasticlunr.specs.Kept.{KeptReads}
use Rattle.elasticlunr_laws.proofs.ByTexts.{found_of_two, later_is_found, readable_as}
use Rattle.elasticlunr_laws.proofs.OneField.{found_in_one}
use Rattle.elasticlunr_search.specs.declared.words.Join.TheVariants.{Any}
use Rattle.elasticlunr_uses.proofs.Passing.{passed, reads_nothing}
use Rattle.elasticlunr_uses.specs.declared.error.UseError.TheVariants.{Search}
use Rattle.elasticlunr_uses.proofs.found.built_printed_found.Goals as goal

pub returns-in_err-found-clause-errors : goal.returns-in_err-found-clause-errors
returns-in_err-found-clause-errors c = passed c.from_residual-in_err-found.result Search _ _
    c.from_residual-in_err-found.ensures.1 (inr (reads_nothing english _ _ (codes "body") _
    (c.in_err-found.ensures.errors _ _ refl refl
    (readable_as _ _ _ _ _ c.as_str.ensures.value c.in_ok-printed.ensures.readable))))

pub returns : goal.returns
returns c =
    let readable = readable_as (KeptReads english) _ _ _ _ c.as_str.ensures.value c.in_ok-printed.ensures.readable in
    let apart : codes "body" ≢ codes "id" = λ e. cc (e) in
    let found = found_of_two (KeptReads english) (codes "body") (codes "id") apart _ _ _ _ c.args.query.now _
    (found_in_one (KeptReads english) (codes "body" ∷ []) (codes "id") (adding c.args.other.now (c.args.other_text.now
    ∷ []) ∷ adding c.args.reference.now (c.args.text.now ∷ []) ∷ []) Any (codes "body") c.args.query.now _
    (c.in_ok-found.ensures.found _ _ readable)) in
    let shared = later_is_found (KeptReads english) (codes "body") (codes "id") apart _ _ _ _ _ _ _ found
    (c.calls_tell_tokens.ensures.read (record {})) readable.were in
    record { found = found; shared = shared; errors = tt }
