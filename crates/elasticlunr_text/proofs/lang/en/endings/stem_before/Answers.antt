use Rattle.std.proofs.Common.{◌≢◌, ◌++◌, chars, sym, ◌∙◌, subst, List, ℕ, true≢false}
use Rattle.elasticlunr_text.specs.Stems.{IsStem}
use Rattle.elasticlunr_text.proofs.BasicLemmas.{IfNone-always}
use Rattle.elasticlunr_text.proofs.EndingLemmas.{chars-front, stripped, same_front, not_stripped}
use Rattle.elasticlunr_text.proofs.lang.en.endings.stem_before.Goals as goal

pub returns-in_err-stem-clause-none : goal.returns-in_err-stem-clause-none
returns-in_err-stem-clause-none c =
    let none : (s : List ℕ) → IsStem s → chars c.args.word.now ≢ s ++ c.args.suffix.now = λ s stem. not_stripped
    c.args.word.now c.args.suffix.now s c.utf8.word c.requires c.in_err-stem.ensures.cases in
    IfNone-always _ none

pub returns-then-is_stem-clause-split : goal.returns-then-is_stem-clause-split
returns-then-is_stem-clause-split c =
    let cut = stripped c.args.word.now c.in_ok-stem.stem.now c.args.suffix.now c.in_ok-stem.ensures.cases in
    chars-front c.args.word.now c.in_ok-stem.stem.now c.args.suffix.now c.utf8.word c.requires cut

pub returns-else-is_stem-clause-none : goal.returns-else-is_stem-clause-none
returns-else-is_stem-clause-none c s stem e =
    let w = c.args.word.now in
    let f = c.in_ok-stem.stem.now in
    let cut = stripped w f c.args.suffix.now c.in_ok-stem.ensures.cases in
    let same = same_front w f s c.args.suffix.now c.utf8.word c.requires cut e in
    true≢false (sym (c.is_stem.ensures.1 (subst (λ (t : List ℕ). IsStem t) (sym same) stem)) ∙ c.if-is_stem.false)
