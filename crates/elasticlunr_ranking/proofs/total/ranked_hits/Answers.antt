use Rattle.std.proofs.Common.{subst}
use Rattle.std.specs.List.Sorted.{IsPermutation}
use Rattle.elasticlunr_ranking.specs.Held.{told}
use Rattle.elasticlunr_ranking.specs.Order.{told_hits}
use Rattle.elasticlunr_ranking.proofs.total.ranked_hits.Goals as goal

pub returns : goal.returns
returns c =
    let scores = c.in_ok-scores.ensures in
    record {
      looked_up = scores.0;
      of_fields = scores.1;
      scores = told c.in_ok-scores.scores.items;
      are = scores.2;
      each = subst (λ l. IsPermutation (told l) (told_hits c.in_ok-hits.hits.items)) c.deref.ensures.value
          c.in_ok-hits.ensures.permutation;
      in_order = c.in_ok-hits.ensures.order;
    }
