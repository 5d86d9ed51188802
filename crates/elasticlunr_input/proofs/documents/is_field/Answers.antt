use Rattle.std.proofs.Common.{sym, ◌∙◌}
use Rattle.elasticlunr_input.proofs.documents.is_field.Goals as goal

pub returns-then-is_string : goal.returns-then-is_string
returns-then-is_string c = rw (sym c.is_string.ensures ∙ c.if-is_string.true) c.ne.ensures
