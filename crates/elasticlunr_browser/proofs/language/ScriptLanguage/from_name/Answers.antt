use Rattle.std.proofs.Common.{refl}
use Rattle.elasticlunr_browser.proofs.NameLemmas.{no_name}
use Rattle.elasticlunr_browser.proofs.language.ScriptLanguage.from_name.Goals as goal

pub returns-in-None-clause-none : goal.returns-in-None-clause-none
returns-in-None-clause-none c = λ _. no_name c.args.name.now (c.in-None.ensures.none refl)
    (c.is_hungarian.ensures.no c.if-is_hungarian.false)
