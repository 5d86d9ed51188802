use Rattle.std.proofs.Common.{rules}
use Rattle.elasticlunr_input.proofs.lines.line_unread.Goals as goal

pub returns : goal.returns
returns c = search rules
