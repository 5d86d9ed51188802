use Rattle.std.proofs.Common.{subst}
use Rattle.std.specs.List.Sorted.{IsPermutation}
use Rattle.elasticlunr_ranking.specs.Held.{told}
use Rattle.elasticlunr_ranking.proofs.total.best_hits.Goals as goal

pub returns : goal.returns
returns c =
    let scores = c.in_ok-scores.ensures in
    let hits = c.in_ok-hits.ensures in (
      hits.0,
      record {
        looked_up = scores.0;
        of_fields = scores.1;
        scores = told c.in_ok-scores.scores.items;
        are = scores.2;
        each = subst (λ l. IsPermutation (told l) hits.0) c.deref.ensures.value hits.1;
        in_order = hits.2;
      },
      hits.3,
    )
