use Rattle.std.proofs.Common.{sym, ◌∙◌, ap, option_map}
use Rattle.elasticlunr_stems.proofs.ReadLemmas.{marks-odd}
use Rattle.elasticlunr_stems.proofs.read.marks_in.Goals as goal

pub returns-else-is_empty : goal.returns-else-is_empty
returns-else-is_empty c =
    ap (option_map _) (sym (marks-odd c.loop-rest.rest.now c.in_default.len_below
    (sym c.is_empty.ensures ∙ c.if-is_empty.false))) ∙ c.loop-rest.invariant
