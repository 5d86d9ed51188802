use Rattle.std.proofs.Common.{◌==◌, ap, sym, ◌∙◌}
use Rattle.std.specs.List.{list_any}
use Rattle.elasticlunr_text.specs.Text.{bytes_of}
use Rattle.elasticlunr_input.specs.Warnings.{line_feed_text, warnings_of}
use Rattle.elasticlunr_input.proofs.Warned.{one_if, one_more}
use Rattle.elasticlunr_input.proofs.notes.Notes.line_feed.Goals as goal

pub returns-clause-warnings : goal.returns-clause-warnings
returns-clause-warnings c =
    let old = c.args.self.now in
    let reference = c.args.reference.now in
    let text = line_feed_text old.taken reference in
    ap bytes_of c.in_ok-push.ensures.items
    ∙ (one_more old.warnings.items c.in_ok-said.said text c.in_ok-said.ensures.ok
    ∙ one_if (warnings_of old) (list_any (λ b. b == 10) reference) text
    (ap (list_any (λ b. b == 10)) (sym c.as_bytes.ensures.value)
    ∙ (sym c.contains.ensures.value ∙ c.if-not-contains.false)))
