use Rattle.std.proofs.Common.{rules, ◌∷◌, [], ◌++◌, ◌∙◌, ap}
use Rattle.elasticlunr_text.proofs.TextLemmas.{text_of-push, text_of-empty}
use Rattle.elasticlunr_browser.proofs.pairs.alone.Goals as goal

pub returns : goal.returns
returns c =
    text_of-push c.new-text.result c.push.new.self c.args.c (search rules) c.in_ok-push.ensures.bytes
    ∙ ap (λ t. t ++ c.args.c ∷ []) (text_of-empty c.new-text.result c.new-text.ensures.bytes)
