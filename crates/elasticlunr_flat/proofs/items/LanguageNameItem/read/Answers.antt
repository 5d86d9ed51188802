use Rattle.std.proofs.Common.{arith}
use Rattle.elasticlunr_flat.proofs.Exits.{at_exit, at_malformed}
use Rattle.elasticlunr_flat.proofs.Parts.{no_language, no_name, no_stages}
use Rattle.elasticlunr_flat.proofs.items.LanguageNameItem.read.Goals as goal

pub returns-in_err-text-in-0-clause-malformed : goal.returns-in_err-text-in-0-clause-malformed
returns-in_err-text-in-0-clause-malformed c = at_malformed c.from_residual-in_err-text-in-0.result _
    c.from_residual-in_err-text-in-0.ensures.1
    (no_language c.args.reader.now.rest.now c.number.new.self.rest.now c.in_ok-number.field-0
    c.in_ok-number.ensures.ok (λ _. c.in_err-text-in-0.ensures.malformed) (λ e. absurd (omega (arith, e)))
    (λ e. absurd (omega (arith, e))))

pub returns-in_err-text-in-1-clause-malformed : goal.returns-in_err-text-in-1-clause-malformed
returns-in_err-text-in-1-clause-malformed c = at_malformed c.from_residual-in_err-text-in-1.result _
    c.from_residual-in_err-text-in-1.ensures.1
    (no_language c.args.reader.now.rest.now c.number.new.self.rest.now c.in_ok-number.field-0
    c.in_ok-number.ensures.ok (λ e. absurd (omega (arith, e)))
    (λ _. no_name c.number.new.self.rest.now c.in_err-text-in-1.ensures.malformed) (λ e. absurd (omega (arith, e))))

pub returns-in_err-read-in-1-clause-malformed : goal.returns-in_err-read-in-1-clause-malformed
returns-in_err-read-in-1-clause-malformed c = at_exit c.from_residual-in_err-read-in-1.result _ _
    c.in_err-read-in-1.field-0.0 c.from_residual-in_err-read-in-1.ensures.1
    (λ none. no_language c.args.reader.now.rest.now c.number.new.self.rest.now c.in_ok-number.field-0
    c.in_ok-number.ensures.ok (λ e. absurd (omega (arith, e)))
    (λ _. no_stages c.number.new.self.rest.now c.text-in-1.new.self.rest.now c.in_ok-text-in-1.field-0.now
    c.in_ok-text-in-1.ensures.ok none) (λ e. absurd (omega (arith, e)))) c.in_err-read-in-1.ensures.malformed

pub returns-in_err-text-in-2-clause-malformed : goal.returns-in_err-text-in-2-clause-malformed
returns-in_err-text-in-2-clause-malformed c = at_malformed c.from_residual-in_err-text-in-2.result _
    c.from_residual-in_err-text-in-2.ensures.1
    (no_language c.args.reader.now.rest.now c.number.new.self.rest.now c.in_ok-number.field-0
    c.in_ok-number.ensures.ok (λ e. absurd (omega (arith, e))) (λ e. absurd (omega (arith, e)))
    (λ _. c.in_err-text-in-2.ensures.malformed))

pub returns-in_default-clause-malformed : goal.returns-in_default-clause-malformed
returns-in_default-clause-malformed c = no_language c.args.reader.now.rest.now c.number.new.self.rest.now
    c.in_ok-number.field-0 c.in_ok-number.ensures.ok (λ e. absurd (omega (arith, e))) (λ e. absurd (omega (arith, e)))
    (λ e. absurd (omega (arith, e)))
