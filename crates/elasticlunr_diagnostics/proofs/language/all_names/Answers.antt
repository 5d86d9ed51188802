use Rattle.std.proofs.Common.{ap, ◌∙◌, map, take}
use Rattle.std.proofs.lemmas.List.{take_all}
use Rattle.elasticlunr_lang.specs.Known.{language_name, all_languages}
use Rattle.elasticlunr_diagnostics.proofs.language.all_names.Goals as goal

pub returns : goal.returns
returns c =
    c.loop-language.invariant
    ∙ ap (λ languages. map language_name (take c.loop-language.language-index languages))
    c.languages-language-items.ensures
    ∙ ap (map language_name) (take_all c.loop-language.language-index all_languages c.loop-language-test.false)
