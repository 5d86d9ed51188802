use Rattle.std.proofs.Common.{◌∙◌, ap, map}
use Rattle.elasticlunr_ranking.specs.Keys.{told_key}
use Rattle.elasticlunr_ranking.proofs.hits.best.Goals as goal

pub returns : goal.returns
returns c =
    let all = c.in_ok-keys.ensures in
    (all.0, all.1, all.2, c.in_ok-hits.ensures ∙ ap (map told_key) c.deref.ensures.value ∙ all.3)
