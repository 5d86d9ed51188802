use Rattle.std.proofs.Common.{ap, ◌∙◌}
use Rattle.std.specs.Str.{chars}
use Rattle.std.proofs.lemmas.Str.{chars-nil}
use Rattle.elasticlunr_stems.proofs.text.text_from.Goals as goal

pub loop-c-init : goal.loop-c-init
loop-c-init c = ap chars c.clear.ensures.bytes ∙ chars-nil
