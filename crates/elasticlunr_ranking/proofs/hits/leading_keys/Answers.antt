use Rattle.std.proofs.Common.{◌∙◌, ap, map, sym}
use Rattle.std.proofs.lemmas.List.{take-map}
use Rattle.elasticlunr_ranking.specs.Keys.{told_key}
use Rattle.elasticlunr_ranking.proofs.hits.leading_keys.Goals as goal

pub returns : goal.returns
returns c =
    let keys = c.in_ok-keys.keys.items in (
      map told_key keys,
      c.in_ok-keys.ensures.permutation,
      c.in_ok-keys.ensures.order,
      ap (map told_key) c.truncate.ensures.items ∙ sym (take-map told_key c.args.limit keys),
    )
