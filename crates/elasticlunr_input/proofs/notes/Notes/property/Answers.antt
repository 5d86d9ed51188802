use Rattle.std.proofs.Common.{ap, sym, ◌∙◌}
use Rattle.elasticlunr_text.specs.Text.{bytes_of}
use Rattle.elasticlunr_input.specs.Warnings.{is_property, property_document_text, warnings_of}
use Rattle.elasticlunr_input.proofs.Warned.{one_if, one_more}
use Rattle.elasticlunr_input.proofs.notes.Notes.property.Goals as goal

pub returns-clause-warnings : goal.returns-clause-warnings
returns-clause-warnings c =
    let old = c.args.self.now in
    let text = property_document_text old.taken c.args.reference.now in
    ap bytes_of c.in_ok-push.ensures.items
    ∙ (one_more old.warnings.items c.in_ok-said.said text c.in_ok-said.ensures.ok
    ∙ one_if (warnings_of old) (is_property c.args.reference.now) text
    (sym c.is_property.ensures ∙ c.if-not-is_property.false))
