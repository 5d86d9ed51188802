use Rattle.std.proofs.Common.{rules, ◌∷◌, [], ◌++◌, ◌∙◌, ap, sym, option_to_list}
use Rattle.elasticlunr_text.proofs.TextLemmas.{text_of-push}
use Rattle.elasticlunr_browser.proofs.pairs.LowerCaseCharChange.change.Goals as goal

pub returns-in_ok-push-in-Some : goal.returns-in_ok-push-in-Some
returns-in_ok-push-in-Some c =
    text_of-push c.in_ok-text.text c.push.new.self c.in-Some.second (search rules) c.in_ok-push-in-Some.ensures.bytes
    ∙ ap (λ t. t ++ c.in-Some.second ∷ []) c.in_ok-text.ensures
    ∙ sym (c.lower_char-first.ensures ∙ ap (λ o. c.lower_char-first.result.0 ∷ option_to_list o) c.in-Some.is)
