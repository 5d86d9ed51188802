use Rattle.std.proofs.Common.{Some, None, sym, append-nil}
use Rattle.elasticlunr_text.proofs.pipeline.run.Pipeline.run_on.Goals as goal

pub returns-in_ok-push-clause-ok : goal.returns-in_ok-push-clause-ok
returns-in_ok-push-clause-ok g c = (
  Some c.in-Some.left,
  rw c.in-Some.is at c.in_ok-left.ensures,
  c.in_ok-push.ensures.items,
)

pub returns-in_default-clause-ok : goal.returns-in_default-clause-ok
returns-in_default-clause-ok g c = (
  None,
  rw c.in_default.is at c.in_ok-left.ensures,
  sym (append-nil c.args.kept.now.items),
)
