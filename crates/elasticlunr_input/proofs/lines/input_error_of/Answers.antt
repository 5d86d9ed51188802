use Rattle.std.proofs.Common.{inr, refl}
use Rattle.elasticlunr_job_format.specs.ObjectsTold.{options_told}
use Rattle.elasticlunr_input.proofs.HeadLemmas.{fails_document, fails_too_many}
use Rattle.elasticlunr_input.proofs.lines.input_error_of.Goals as goal

pub returns-in_ok-message-in-Document-clause-refused : goal.returns-in_ok-message-in-Document-clause-refused
returns-in_ok-message-in-Document-clause-refused c =
    let last = c.args.last.now in
    let stops = fails_document (options_told c.args.options.now) in
    λ left fails. inr (
      last,
      c.in-Document.number,
      c.in-Document.problem,
      stops left left last c.args.error
          c.in-Document.number c.in-Document.problem c.in-Document.is refl fails,
      c.in_ok-message-in-Document.ensures,
    )

pub returns-in-TooManyLines-clause-refused : goal.returns-in-TooManyLines-clause-refused
returns-in-TooManyLines-clause-refused c = λ left fails. fails_too_many (options_told c.args.options.now) left
    c.args.last.now c.args.error c.in-TooManyLines.is fails
