use Rattle.std.proofs.lemmas.List.Sorted.{All-permutation}
use Rattle.elasticlunr_ranking.specs.Held.{told}
use Rattle.elasticlunr_ranking.specs.Keys.{IsKey}
use Rattle.elasticlunr_ranking.proofs.Ranked.{each, in_order}
use Rattle.elasticlunr_ranking.proofs.hits.sorted_keys.Goals as goal

pub returns-clause-permutation : goal.returns-clause-permutation
returns-clause-permutation c = each (told c.args.scores.now) c.in_ok-keys.keys.items c.sort_unstable.new.self.items
    c.in_ok-keys.ensures.told c.sort_unstable.ensures.permutation

pub returns-clause-order : goal.returns-clause-order
returns-clause-order c = in_order c.sort_unstable.new.self.items
    (All-permutation IsKey c.in_ok-keys.keys.items c.sort_unstable.new.self.items c.sort_unstable.ensures.permutation
    c.in_ok-keys.ensures.keys) c.sort_unstable.ensures.sorted
