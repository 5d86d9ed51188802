use Rattle.std.proofs.Common.{sym, subst}
use Rattle.std.specs.Str.Lines.{lines}
use Rattle.elasticlunr_browser.specs.Named.{AreNamed}
use Rattle.elasticlunr_browser.proofs.script.script_for.Goals as goal

pub returns-clause-some : goal.returns-clause-some
returns-clause-some c = (
  c.deref.result.now,
  subst (AreNamed (lines c.args.names.now)) (sym c.deref.ensures.value)
      (rw c.in-Some.is at c.in_ok-chosen.ensures.some),
  c.in_ok-text.ensures,
)
