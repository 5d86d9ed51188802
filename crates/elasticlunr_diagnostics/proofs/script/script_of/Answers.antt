use Rattle.std.proofs.Common.{[], ◌∷◌, ◌++◌, ap, ◌∙◌}
use Rattle.elasticlunr_diagnostics.proofs.script.script_of.Goals as goal

pub returns : goal.returns
returns c =
    let index = c.without_feed-index.result.now in (
      index,
      c.without_feed-index.ensures,
      c.in_ok-push_str-2.ensures.bytes ∙ ap (λ front. front ++ (59 ∷ 10 ∷ [])) (c.in_ok-push_str.ensures.bytes
          ∙ ap (λ front. front ++ index) c.in_ok-script.ensures.ok),
    )
