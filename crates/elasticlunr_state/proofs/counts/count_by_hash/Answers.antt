use Rattle.std.proofs.Common.{◌≡◌, ◌<◌, ◌≤◌, ◌^◌, arith, sym, subst, ◌∙◌, length, count_by, unwrap_or, bytes_eq}
use Rattle.std.proofs.Common.{string_bytes}
use Rattle.std.specs.HashMap.{get_by_text}
use Rattle.std.proofs.lemmas.Grind.{text_counts}
use Rattle.std.proofs.lemmas.Iterator.Adapters.{YieldsList-from_vec}
use Rattle.std.proofs.lemmas.Iterator.Consumers.{YieldsList-turn, YieldsList-end}
use Rattle.std.proofs.lemmas.List.{map-id}
use Rattle.std.proofs.lemmas.List.Sums.{count_by-le-length}
use Rattle.elasticlunr_state.specs.Counted.{AreCounts, count_at}
use Rattle.elasticlunr_state.proofs.counts.count_by_hash.Goals as goal

pub overflow_add-counts : goal.overflow_add-counts
overflow_add-counts c =
    let h = c.into_iter-token-iterator.ensures.into_iter_gives in
    let t = YieldsList-turn (YieldsList-from_vec {s = c.into_iter-token-iterator.result} c.args.tokens.items h.0
    (h.1 ∙ c.args.tokens.ok.0)) c.loop-token.yielded c.loop-token.token-iterator c.loop-token.yielded_by
    c.next.result c.next.new.self c.in-Some.token c.in-Some.is c.next.ensures.steps in
    let below : length c.loop-token.yielded < 2 ^ 64 = omega (arith, t.0, h.1, h.2, c.args.tokens.ok.0) in
    let few : count_by (λ s. bytes_eq (string_bytes c.in-Some.token) (string_bytes s)) c.loop-token.yielded ≤ length
    c.loop-token.yielded = count_by-le-length _ c.loop-token.yielded in
    let counted : unwrap_or (get_by_text c.loop-token.counts (string_bytes c.in-Some.token)) 0
    ≡ count_by (λ s. bytes_eq (string_bytes c.in-Some.token) (string_bytes s)) c.loop-token.yielded =
    c.loop-token.invariant.counted (string_bytes c.in-Some.token) in
    grind (arith, text_counts, counted, few, below)

pub loop-token-preserved : goal.loop-token-preserved
loop-token-preserved c = record {
  counted = λ text. grind (arith, text_counts, c.loop-token.invariant.counted text);
  positive = λ text. grind (arith, text_counts, c.loop-token.invariant.positive text);
}

pub returns-clause-counted : goal.returns-clause-counted
returns-clause-counted c =
    let h = c.into_iter-token-iterator.ensures.into_iter_gives in
    let t = YieldsList-end (YieldsList-from_vec {s = c.into_iter-token-iterator.result} c.args.tokens.items h.0
    (h.1 ∙ c.args.tokens.ok.0)) c.loop-token.yielded c.loop-token.token-iterator c.loop-token.yielded_by
    c.next.result c.next.new.self c.in-None.is c.next.ensures.steps in
    subst (λ tokens. AreCounts tokens (count_at c.loop-token.counts.entries)) (sym (map-id c.loop-token.yielded) ∙ t.0)
    c.loop-token.invariant
