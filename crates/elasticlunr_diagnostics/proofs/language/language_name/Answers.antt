use Rattle.std.proofs.Common.{sym, ap, ◌∙◌, drop, option_map}
use Rattle.std.specs.List.{find}
use Rattle.std.proofs.lemmas.List.{drop_all}
use Rattle.elasticlunr_lang.specs.Known.{language_name, all_languages}
use Rattle.elasticlunr_diagnostics.specs.Called.{is_called}
use Rattle.elasticlunr_diagnostics.proofs.language.language_name.Goals as goal

pub returns : goal.returns
returns c =
    ap (λ rest. option_map language_name (find (is_called c.args.asked.now) rest))
    (sym (drop_all c.loop-language.language-index all_languages c.loop-language-test.false)
    ∙ ap (drop c.loop-language.language-index) (sym c.languages-language-items.ensures))
    ∙ ap (option_map language_name) c.loop-language.invariant
    ∙ ap (λ languages. option_map language_name (find (is_called c.args.asked.now) languages))
    c.languages-language-items.ensures
