use Rattle.std.proofs.Common.{ap, string_bytes, subst, sym, ◌∙◌}
use Rattle.elasticlunr.specs.Printed.{IsPrintOf}
use Rattle.elasticlunr_job.specs.Answer.{line}
use Rattle.elasticlunr_job.proofs.LineFeed.{print_more}
use Rattle.std.proofs.Common.{rules}
use Rattle.elasticlunr_job.proofs.answer.line_of.Goals as goal

pub returns-clause-ok : goal.returns-clause-ok
unfolding lib.Utf8.encode
returns-clause-ok g c commands stands =
    let text = c.in_ok-text.ensures.ok commands stands in
    (text.0, text.1, c.in_ok-push.ensures.bytes ∙ ap line text.2)

pub returns-clause-print : goal.returns-clause-print
unfolding lib.Utf8.encode
returns-clause-print g c commands stands = subst (IsPrintOf _ commands) (sym c.in_ok-push.ensures.bytes)
    (print_more _ commands (string_bytes c.in_ok-text.text) (c.in_ok-text.ensures.print commands stands))

pub returns-clause-failed : goal.returns-clause-failed
returns-clause-failed g c = search rules
