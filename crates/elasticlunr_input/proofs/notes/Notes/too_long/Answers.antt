use Rattle.std.proofs.Common.{Some, ap, sym, ◌∙◌}
use Rattle.elasticlunr_input.specs.Noted.{is_only_stored, too_long_in}
use Rattle.elasticlunr_input.proofs.Noting.{none_stored, none_too_long}
use Rattle.elasticlunr_input.proofs.notes.Notes.too_long.Goals as goal

pub returns-in_default : goal.returns-in_default
returns-in_default c =
    let stored = is_only_stored c.args.self.now c.args.field in
    sym (ap (λ longest. too_long_in longest stored c.args.value.now) c.in_default.is
    ∙ none_too_long stored c.args.value.now)

pub returns-then-is_only_stored : goal.returns-then-is_only_stored
returns-then-is_only_stored c =
    let notes = c.args.self.now in
    sym (none_stored notes.longest (is_only_stored notes c.args.field) c.args.value.now
    (sym c.is_only_stored.ensures ∙ c.if-is_only_stored.true))

pub returns : goal.returns
returns c =
    let text = c.args.value.now in
    c.in_ok-longer.ensures
    ∙ sym (ap (λ longest. too_long_in longest (is_only_stored c.args.self.now c.args.field) text) c.in-Some.is
    ∙ ap (λ b. too_long_in (Some c.in-Some.longest) b text) (sym c.is_only_stored.ensures ∙ c.if-is_only_stored.false))
