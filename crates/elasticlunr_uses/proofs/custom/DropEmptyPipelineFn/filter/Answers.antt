use Rattle.std.proofs.Common.{refl, sym, ◌∙◌}
use Rattle.elasticlunr.proofs.TextLemmas.{is_not_empty-text_of}
use Rattle.elasticlunr_uses.proofs.custom.DropEmptyPipelineFn.filter.Goals as goal

pub returns-then-is_empty : goal.returns-then-is_empty
returns-then-is_empty c = rw (is_not_empty-text_of c.args.token, sym c.is_empty.ensures ∙ c.if-is_empty.true) refl

pub returns : goal.returns
returns c = rw (is_not_empty-text_of c.args.token, sym c.is_empty.ensures ∙ c.if-is_empty.false) refl
