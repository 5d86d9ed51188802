use Rattle.std.proofs.Common.{◌≢◌, ◌++◌, ◌∷◌, [], sym, ◌∙◌, subst, chars, List, ℕ, true≢false, append_assoc}
use Rattle.std.proofs.lemmas.List.{same_from_push}
use Rattle.elasticlunr_text.specs.Stems.{IsStem}
use Rattle.elasticlunr_text.proofs.BasicLemmas.{IfNone-always}
use Rattle.elasticlunr_text.proofs.EndingLemmas.{stripped, not_stripped, chars-stem_and_letter, same_front_and_letter}
use Rattle.elasticlunr_text.proofs.EndingLemmas.{ne-push}
use Rattle.elasticlunr_text.proofs.lang.en.endings.stem_and_letter_before.Goals as goal

pub returns-in_err-front-clause-none : goal.returns-in_err-front-clause-none
returns-in_err-front-clause-none c =
    let w = c.args.word.now in
    let none : (s : List ℕ) (d : ℕ) → IsStem s → chars w ≢ s ++ d ∷ c.args.suffix.now = λ s d stem e.
    not_stripped w c.args.suffix.now (s ++ d ∷ []) c.utf8.word c.requires c.in_err-front.ensures.cases
    (e ∙ sym (append_assoc s (d ∷ []) c.args.suffix.now)) in
    IfNone-always _ none

pub returns-in_err-stem-clause-none : goal.returns-in_err-stem-clause-none
returns-in_err-stem-clause-none c =
    let w = c.args.word.now in
    let cut = stripped w c.in_ok-front.front.now c.args.suffix.now c.in_ok-front.ensures.cases in
    let none : (s : List ℕ) (d : ℕ) → IsStem s → chars w ≢ s ++ d ∷ c.args.suffix.now = λ s d stem e.
    ne-push s d (sym c.in_err-stem.ensures.none ∙ same_front_and_letter w c.in_ok-front.front.now s c.args.suffix.now d
    c.utf8.word c.requires cut e) in
    IfNone-always _ none

pub returns-then-is_stem-clause-split : goal.returns-then-is_stem-clause-split
returns-then-is_stem-clause-split c =
    let cut = stripped c.args.word.now c.in_ok-front.front.now c.args.suffix.now c.in_ok-front.ensures.cases in
    chars-stem_and_letter c.args.word.now c.in_ok-front.front.now (chars c.in_ok-stem.stem.now) c.args.suffix.now
    c.in_ok-stem.c c.utf8.word c.requires cut c.in_ok-stem.ensures.split

pub returns-else-is_stem-clause-none : goal.returns-else-is_stem-clause-none
returns-else-is_stem-clause-none c s d stem e =
    let cut = stripped c.args.word.now c.in_ok-front.front.now c.args.suffix.now c.in_ok-front.ensures.cases in
    let same = same_front_and_letter c.args.word.now c.in_ok-front.front.now s c.args.suffix.now d c.utf8.word
    c.requires cut e in
    let both = same_from_push (chars c.in_ok-stem.stem.now) s c.in_ok-stem.c d (sym c.in_ok-stem.ensures.split ∙ same)
    in
    true≢false (sym (c.is_stem.ensures.1 (subst (λ (t : List ℕ). IsStem t) (sym both.0) stem)) ∙ c.if-is_stem.false)
