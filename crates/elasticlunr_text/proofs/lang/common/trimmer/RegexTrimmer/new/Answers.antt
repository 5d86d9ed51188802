use Rattle.std.proofs.Common.{Err, ap, sym, ◌∙◌}
use Rattle.std.proofs.Common.{rules}
use Rattle.elasticlunr_text.proofs.lang.common.trimmer.RegexTrimmer.new.Goals as goal

pub returns-in_err-ranges-clause-bad : goal.returns-in_err-ranges-clause-bad
returns-in_err-ranges-clause-bad c = λ is. c.in_err-ranges.ensures.bad
    (ap Err (sym (rw is at c.from_residual.ensures.1)))

pub returns-clause-class : goal.returns-clause-class
returns-clause-class c =
    let read = c.in_ok-ranges.ensures.read in
    (read.0, read.1, λ letter scalar. c.in_ok-new.ensures letter ∙ read.2 letter scalar)

pub returns-clause-name : goal.returns-clause-name
returns-clause-name c = search rules

pub returns-clause-bad : goal.returns-clause-bad
returns-clause-bad c = search rules
