use Rattle.std.proofs.Common.{arith}
use Rattle.elasticlunr_flat.proofs.Exits.{at_exit}
use Rattle.elasticlunr_flat.proofs.Parts.{no_tokens}
use Rattle.elasticlunr_flat.proofs.items.GivenTokensItem.read.Goals as goal

pub returns-in_err-read-in-1-clause-malformed : goal.returns-in_err-read-in-1-clause-malformed
returns-in_err-read-in-1-clause-malformed c = at_exit c.from_residual-in_err-read-in-1.result _ _
    c.in_err-read-in-1.field-0.0 c.from_residual-in_err-read-in-1.ensures.1
    (λ none. no_tokens c.args.reader.now.rest.now c.number.new.self.rest.now c.in_ok-number.field-0
    c.in_ok-number.ensures.ok (λ e. omega (arith, e)) (λ _. none) (λ e. absurd (omega (arith, e))))
    c.in_err-read-in-1.ensures.malformed

pub returns-in_err-read-in-2-clause-malformed : goal.returns-in_err-read-in-2-clause-malformed
returns-in_err-read-in-2-clause-malformed c = at_exit c.from_residual-in_err-read-in-2.result _ _
    c.in_err-read-in-2.field-0.0 c.from_residual-in_err-read-in-2.ensures.1
    (λ none. no_tokens c.args.reader.now.rest.now c.number.new.self.rest.now c.in_ok-number.field-0
    c.in_ok-number.ensures.ok (λ e. omega (arith, e)) (λ e. absurd (omega (arith, e))) (λ _. none))
    c.in_err-read-in-2.ensures.malformed

pub returns-in_default-clause-malformed : goal.returns-in_default-clause-malformed
returns-in_default-clause-malformed c = no_tokens c.args.reader.now.rest.now c.number.new.self.rest.now
    c.in_ok-number.field-0 c.in_ok-number.ensures.ok (λ e. omega (arith, e)) (λ e. absurd (omega (arith, e)))
    (λ e. absurd (omega (arith, e)))
