use Rattle.std.proofs.Common.{sym, ap, ◌∙◌}
use Rattle.elasticlunr_publish.specs.Heads.{is_listed, told_texts}
use Rattle.elasticlunr_publish.proofs.Listed.{pushed}
use Rattle.elasticlunr_publish.proofs.heads.remove_unless.Goals as goal

pub returns : goal.returns
returns c other = ap (λ it. is_listed other (told_texts it)) c.in_ok-push.ensures.items
    ∙ pushed other c.args.name (told_texts c.args.kept.now) c.args.removed.now.items (sym c.is_listed.ensures ∙ c.if-is_listed.false)
