use Rattle.std.proofs.Common.{◌+◌, ap, min, ◌∙◌}
use Rattle.std.proofs.Common.{rules}
use Rattle.elasticlunr_input.proofs.notes.Notes.value.Goals as goal

pub returns-clause-words : goal.returns-clause-words
returns-clause-words c = c.saturating_add-self.ensures
    ∙ ap (λ n. min (c.args.self.now.longer + n) 18446744073709551615) c.in_ok-longer.ensures

pub returns-clause-warnings : goal.returns-clause-warnings
returns-clause-warnings c = search rules

pub returns-clause-references : goal.returns-clause-references
returns-clause-references c = search rules

pub returns-clause-taken : goal.returns-clause-taken
returns-clause-taken c = search rules

pub returns-clause-seen : goal.returns-clause-seen
returns-clause-seen c = search rules

pub returns-clause-known : goal.returns-clause-known
returns-clause-known c = search rules

pub returns-clause-limits : goal.returns-clause-limits
returns-clause-limits c = search rules
