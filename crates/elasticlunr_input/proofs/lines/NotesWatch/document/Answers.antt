use Rattle.std.proofs.Common.{rules}
use Rattle.elasticlunr_input.proofs.lines.NotesWatch.document.Goals as goal

pub returns : goal.returns
returns c = search rules
