use Rattle.std.proofs.Common.{ap, sym, ◌∙◌, length, ◌++◌, encode_utf8}
use Rattle.elasticlunr_text.proofs.BasicLemmas.{IfNone-always}
use Rattle.elasticlunr_text.proofs.EndingLemmas.{chars-last, chars-of_empty}
use Rattle.elasticlunr_text.proofs.lang.en.endings.split_last.Goals as goal

pub returns-in_err-c-clause-none : goal.returns-in_err-c-clause-none
returns-in_err-c-clause-none c =
    IfNone-always _ (chars-of_empty c.args.text.now (ap (λ t. length t) (sym c.chars-letters.ensures.rest)
    ∙ c.in_err-c.ensures.steps.0))

pub returns-clause-split : goal.returns-clause-split
returns-clause-split c =
    chars-last c.args.text.now c.as_str.result.now c.in_ok-c.c c.utf8.text c.as_str.utf8
    (sym c.chars-letters.ensures.rest ∙ c.in_ok-c.ensures.steps
    ∙ ap (λ t. t ++ encode_utf8 c.in_ok-c.c) (sym c.as_str.ensures))
