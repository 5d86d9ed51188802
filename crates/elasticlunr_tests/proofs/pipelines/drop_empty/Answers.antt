use Rattle.std.proofs.Common.{refl, sym, ◌∙◌}
use Rattle.elasticlunr_text.proofs.TextLemmas.{is_not_empty-text_of}
use Rattle.elasticlunr_tests.proofs.pipelines.drop_empty.Goals as goal

pub returns-then-is_empty : goal.returns-then-is_empty
returns-then-is_empty c = rw (is_not_empty-text_of c.args.token, sym c.is_empty.ensures ∙ c.if-is_empty.true) refl

pub returns-else-is_empty : goal.returns-else-is_empty
returns-else-is_empty c = rw (is_not_empty-text_of c.args.token, sym c.is_empty.ensures ∙ c.if-is_empty.false) refl
