use Rattle.std.proofs.Common.{◌≡◌, [], ◌∷◌, ◌++◌, ◌-◌, ℕ, refl, sym, ap, subst, ◌∙◌, append_assoc, append-nil, arith}
use Rattle.std.proofs.Common.{length, length-set, length-append, set, String, Global}
use Rattle.elasticlunr_trie_nodes.specs.Names.{HasRanks, HasNumbersBelow}
use Rattle.elasticlunr_trie_nodes.proofs.Naming.{one_more_rank}
use Rattle.elasticlunr_trie_nodes.proofs.names.set_ranks.Goals as goal

pub loop-number-init : goal.loop-number-init
loop-number-init c =
    let from = c.into_iter-number-iterator.ensures.into_iter_gives ∙ c.iter-number-items.ensures.rest in
    record {
      same_count = refl;
      done = [];
      split = from;
      left_is = c.len-count.ensures.len ∙ ap length (sym from);
      has = λ i lt. absurd (omega arith);
    }

pub loop-number-preserved : goal.loop-number-preserved
loop-number-preserved c =
    let held = c.loop-number.invariant in
    let e : String Global × ℕ = (c.in-Some.field-0-0.now, c.in-Some.number.now) in
    let es = c.args.numbers.now.entries in
    let ranks = c.loop-number.ranks.items in
    let split : held.done ++ e ∷ c.next.new.self ≡ es = ap (λ xs. held.done ++ xs) (sym c.in-Some.ensures.steps)
    ∙ held.split in
    let place : c.len-count.result - c.loop-number.left
    ≡ length held.done = omega (
      arith,
      c.len-count.ensures.len,
      ap length held.split,
      length-append held.done
          c.loop-number.number-iterator,
      held.left_is,
    ) in
    record {
      same_count = length-set ranks e.1 (c.len-count.result - c.loop-number.left) ∙ held.same_count;
      done = held.done ++ e ∷ [];
      split = append_assoc held.done (e ∷ []) c.next.new.self ∙ split;
      left_is = omega (arith, held.left_is, ap length c.in-Some.ensures.steps);
      has = subst (λ v. HasRanks es (set ranks e.1 v) (length (held.done ++ e ∷ []))) (sym place)
          (one_more_rank es ranks held.done e c.next.new.self split
          (subst (HasNumbersBelow es) (sym held.same_count) c.requires.in_range) c.requires.apart held.has);
    }

pub returns-clause-ranks : goal.returns-clause-ranks
returns-clause-ranks c =
    let held = c.loop-number.invariant in
    let all = sym (append-nil held.done) ∙ ap (λ es. held.done ++ es) (sym c.in-None.ensures.steps.0) ∙ held.split in
    subst (λ n. HasRanks c.args.numbers.now.entries c.loop-number.ranks.items n) (ap length all) held.has
