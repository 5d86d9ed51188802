use Rattle.std.proofs.Common.{◌∙◌, ap, map, subst, sym}
use Rattle.std.specs.List.Sorted.{IsPermutation, IsSorted}
use Rattle.elasticlunr_ranking.specs.Held.{told}
use Rattle.elasticlunr_ranking.specs.Order.{best_first}
use Rattle.elasticlunr_ranking.specs.Keys.{told_key}
use Rattle.elasticlunr_ranking.proofs.hits.ranked.Goals as goal

pub returns-clause-permutation : goal.returns-clause-permutation
returns-clause-permutation c =
    subst (IsPermutation (told c.args.scores.now))
    (sym (c.in_ok-hits.ensures ∙ ap (map told_key) c.deref.ensures.value))
    c.in_ok-keys.ensures.permutation

pub returns-clause-order : goal.returns-clause-order
returns-clause-order c =
    subst (IsSorted best_first) (sym (c.in_ok-hits.ensures ∙ ap (map told_key) c.deref.ensures.value))
    c.in_ok-keys.ensures.order
