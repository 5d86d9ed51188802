use Rattle.std.proofs.Common.{rules}
use Rattle.std.proofs.lemmas.Fn.{always_returns_same}
use Rattle.elasticlunr_text.specs.Arabic.{is_diacritic}
use Rattle.elasticlunr_text.proofs.FirstAtLemmas.{IfSome-find, IfNone-find}
use Rattle.elasticlunr_text.proofs.lang.ar.first_diacritic.Goals as goal

pub returns-clause-found : goal.returns-clause-found
returns-clause-found c =
    IfSome-find is_diacritic _ c.args.text.now c.find.result c.utf8.text c.find.ensures.cases
    (always_returns_same _ _ _ (λ a r f' k. search rules))

pub returns-clause-none : goal.returns-clause-none
returns-clause-none c =
    IfNone-find is_diacritic _ c.args.text.now c.find.result c.utf8.text c.find.ensures.cases
    (always_returns_same _ _ _ (λ a r f' k. search rules))
