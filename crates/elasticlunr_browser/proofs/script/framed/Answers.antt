use Rattle.std.proofs.Common.{◌++◌, ◌∙◌, ap}
use Rattle.elasticlunr_browser.specs.declared.template.TheConstants.{STAGES, TAIL}
use Rattle.elasticlunr_browser.proofs.script.framed.Goals as goal

pub returns : goal.returns
returns c =
    c.in_ok-push_str-4.ensures.bytes
    ∙ ap (λ bs. bs ++ TAIL.now) (c.in_ok-push_str-3.ensures.bytes
    ∙ ap (λ bs. bs ++ c.args.part.now) (c.in_ok-push_str-2.ensures.bytes
    ∙ ap (λ bs. bs ++ STAGES.now) (c.in_ok-push_str.ensures.bytes
    ∙ ap (λ bs. bs ++ c.args.printed.now) c.in_ok-text.ensures.ok)))
