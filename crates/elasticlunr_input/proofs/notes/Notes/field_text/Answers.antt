use Rattle.std.proofs.Common.{ap, sym, ◌∙◌}
use Rattle.elasticlunr_text.specs.Text.{bytes_of}
use Rattle.elasticlunr_input.specs.Warnings.{has_text, textless_text, warnings_of}
use Rattle.elasticlunr_input.proofs.Warned.{none_if, one_if_not, one_more}
use Rattle.elasticlunr_input.proofs.notes.Notes.field_text.Goals as goal

pub returns-then-is_filled-clause-warnings : goal.returns-then-is_filled-clause-warnings
returns-then-is_filled-clause-warnings c =
    none_if (warnings_of c.args.self.now) (has_text c.args.self.now c.args.number) (textless_text c.args.field.now)
    (sym c.is_filled.ensures ∙ c.if-is_filled.true)

pub returns-clause-warnings : goal.returns-clause-warnings
returns-clause-warnings c =
    let old = c.args.self.now in
    let field = c.args.field.now in
    ap bytes_of c.in_ok-push.ensures.items
    ∙ (one_more old.warnings.items c.in_ok-said.said (textless_text field) c.in_ok-said.ensures.ok
    ∙ one_if_not (warnings_of old) (has_text old c.args.number) (textless_text field)
    (sym c.is_filled.ensures ∙ c.if-is_filled.false))
