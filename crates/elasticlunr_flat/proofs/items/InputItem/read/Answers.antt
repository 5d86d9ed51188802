use Rattle.elasticlunr_flat.specs.Told.{language_told, texts_told}
use Rattle.elasticlunr_flat.proofs.Exits.{at_exit, at_malformed}
use Rattle.elasticlunr_flat.proofs.Parts.{after_language, no_reference, after_reference, no_save, after_save}
use Rattle.elasticlunr_flat.proofs.Parts.{no_fields, no_documents}
use Rattle.elasticlunr_flat.proofs.items.InputItem.read.Goals as goal

pub returns-in_err-text-clause-malformed : goal.returns-in_err-text-clause-malformed
returns-in_err-text-clause-malformed c = at_malformed c.from_residual-in_err-text.result _
    c.from_residual-in_err-text.ensures.1
    (after_language c.args.reader.now.rest.now c.read.new.reader.rest.now (language_told c.in_ok-read.field-0)
    c.in_ok-read.ensures.ok (no_reference c.read.new.reader.rest.now c.in_err-text.ensures.malformed))

pub returns-in_err-truth-clause-malformed : goal.returns-in_err-truth-clause-malformed
returns-in_err-truth-clause-malformed c = at_malformed c.from_residual-in_err-truth.result _
    c.from_residual-in_err-truth.ensures.1
    (after_language c.args.reader.now.rest.now c.read.new.reader.rest.now (language_told c.in_ok-read.field-0)
    c.in_ok-read.ensures.ok
    (after_reference c.read.new.reader.rest.now c.text.new.self.rest.now c.in_ok-text.field-0.now
    c.in_ok-text.ensures.ok
    (no_save c.text.new.self.rest.now c.in_err-truth.ensures.malformed)))

pub returns-in_err-read-2-clause-malformed : goal.returns-in_err-read-2-clause-malformed
returns-in_err-read-2-clause-malformed c = at_exit c.from_residual-in_err-read-2.result _ _ c.in_err-read-2.field-0.0
    c.from_residual-in_err-read-2.ensures.1
    (λ none. after_language c.args.reader.now.rest.now c.read.new.reader.rest.now (language_told c.in_ok-read.field-0)
    c.in_ok-read.ensures.ok
    (after_reference c.read.new.reader.rest.now c.text.new.self.rest.now c.in_ok-text.field-0.now
    c.in_ok-text.ensures.ok
    (after_save c.text.new.self.rest.now c.truth.new.self.rest.now c.in_ok-truth.field-0 c.in_ok-truth.ensures.ok
    (no_fields c.truth.new.self.rest.now none)))) c.in_err-read-2.ensures.malformed

pub returns-in_err-read-3-clause-malformed : goal.returns-in_err-read-3-clause-malformed
returns-in_err-read-3-clause-malformed c = at_exit c.from_residual-in_err-read-3.result _ _ c.in_err-read-3.field-0.0
    c.from_residual-in_err-read-3.ensures.1
    (λ none. after_language c.args.reader.now.rest.now c.read.new.reader.rest.now (language_told c.in_ok-read.field-0)
    c.in_ok-read.ensures.ok
    (after_reference c.read.new.reader.rest.now c.text.new.self.rest.now c.in_ok-text.field-0.now
    c.in_ok-text.ensures.ok
    (after_save c.text.new.self.rest.now c.truth.new.self.rest.now c.in_ok-truth.field-0 c.in_ok-truth.ensures.ok
    (no_documents c.truth.new.self.rest.now c.read-2.new.reader.rest.now (texts_told c.in_ok-read-2.field-0.items)
    c.in_ok-read-2.ensures.ok none)))) c.in_err-read-3.ensures.malformed
