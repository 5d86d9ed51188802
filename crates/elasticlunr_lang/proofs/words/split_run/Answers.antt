use Rattle.std.proofs.Common.{rules}
use Rattle.std.proofs.lemmas.Fn.{always_returns_same}
use Rattle.elasticlunr_lang.proofs.WordsLemmas.{IsRunOf-split_once, IsRunOf-whole, shorter-split_once}
use Rattle.elasticlunr_lang.proofs.words.split_run.Goals as goal

pub returns-in-Some-clause-run : goal.returns-in-Some-clause-run
returns-in-Some-clause-run c =
    IsRunOf-split_once _ c.args.text.now c.utf8.text (always_returns_same _ _ _ (λ a r f' k. search rules))
    c.in-Some.run'.now c.in-Some.rest.now c.in-Some.ensures.cases

pub returns-in-Some-clause-shorter : goal.returns-in-Some-clause-shorter
returns-in-Some-clause-shorter c =
    shorter-split_once _ c.args.text.now c.utf8.text (always_returns_same _ _ _ (λ a r f' k. search rules))
    c.in-Some.run'.now c.in-Some.rest.now c.in-Some.ensures.cases

pub returns-in-None-clause-run : goal.returns-in-None-clause-run
returns-in-None-clause-run c = IsRunOf-whole _ c.args.text.now c.utf8.text
    (always_returns_same _ _ _ (λ a r f' k. search rules)) c.in-None.ensures.cases
