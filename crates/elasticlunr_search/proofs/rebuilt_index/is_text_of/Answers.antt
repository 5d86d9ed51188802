use Rattle.std.proofs.Common.{◌≡◌, [], ◌++◌, ap, ◌∙◌}
use Rattle.json.specs.Tree.{json_tokens}
use Rattle.serde_json.specs.Written.{outline}
use Rattle.elasticlunr_search.specs.SameText.{taken}
use Rattle.elasticlunr_search.proofs.SameText.{none_taken}
use Rattle.elasticlunr_search.proofs.rebuilt_index.is_text_of.Goals as goal

pub returns-in-Ok : goal.returns-in-Ok
returns-in-Ok c is_all =
    let all = c.is_all_of.ensures is_all in
    let v = c.in-Ok.ensures in
    let before : taken c.in_ok-out.out.0 c.in_ok-out.out.1 ≡ [] = ap (λ s. taken s.0 s.1) c.in_ok-out.ensures
    ∙ none_taken c.args.text.now in
    (v.0, v.1, all.0 ∙ v.2 ∙ ap (λ ts. ts ++ json_tokens (outline v.0)) before, all.1)
