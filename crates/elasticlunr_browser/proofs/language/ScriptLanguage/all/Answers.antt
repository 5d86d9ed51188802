use Rattle.std.proofs.Common.{◌∙◌, ◌++◌, ◌∷◌, [], ap, map, take}
use Rattle.std.proofs.lemmas.List.{take_all}
use Rattle.elasticlunr_lang.specs.Known.{all_languages}
use Rattle.elasticlunr_browser.specs.declared.language.ScriptLanguage.TheVariants.{BuiltIn, Hungarian}
use Rattle.elasticlunr_browser.proofs.language.ScriptLanguage.all.Goals as goal

pub returns : goal.returns
returns c =
    c.in_ok-push-2.ensures.items ∙ ap (λ all. all ++ Hungarian ∷ [])
    (c.loop-language.invariant
    ∙ ap (λ languages. map BuiltIn (take c.loop-language.language-index languages))
    c.languages-language-items.ensures
    ∙ ap (map BuiltIn) (take_all c.loop-language.language-index all_languages c.loop-language-test.false))
