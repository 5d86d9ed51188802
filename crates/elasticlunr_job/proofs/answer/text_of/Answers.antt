use Rattle.std.proofs.Common.{ap, sym}
use Rattle.elasticlunr.specs.Printed.{pretty_text}
use Rattle.serde_json.specs.Written.{compact_text}
use Rattle.elasticlunr_job.specs.Answer.{printed_text}
use Rattle.elasticlunr_job.proofs.Printing.{told_print}
use Rattle.elasticlunr_job.proofs.answer.text_of.Goals as goal

pub returns-then-pretty-clause-ok : goal.returns-then-pretty-clause-ok
returns-then-pretty-clause-ok g c = told_print c.to_json_pretty.result _ _ c.args.pretty pretty_text
    (λ value. ap (λ b. printed_text b value) (sym c.if-pretty.true)) c.to_json_pretty.ensures.text

pub returns-else-pretty-clause-ok : goal.returns-else-pretty-clause-ok
returns-else-pretty-clause-ok g c = told_print c.to_json.result _ _ c.args.pretty compact_text
    (λ value. ap (λ b. printed_text b value) (sym c.if-pretty.false)) c.to_json.ensures.text
