use Rattle.std.proofs.Common.{◌≡◌, ◌<◌, ◌≤◌, ◌↔◌, [], get_or, string_bytes, sym, ap, subst, arith, ◌∙◌}
use Rattle.std.specs.Prelude.{Contains}
use Rattle.std.proofs.lemmas.Cmp.{nat_cmp_total}
use Rattle.std.proofs.lemmas.Iterator.{items_from_collect}
use Rattle.std.proofs.lemmas.Iterator.Consumers.{YieldsList-from_rest}
use Rattle.std.proofs.lemmas.List.{length-map}
use Rattle.std.proofs.lemmas.Result.{IfOk-at_ok}
use Rattle.std.proofs.lemmas.Map.Lookups.{exact_unsigned}
use Rattle.std.proofs.lemmas.Map.Views.{btree_set_contains_iff}
use Rattle.elasticlunr_error.specs.Text.{bytes_of}
use Rattle.elasticlunr_piece_head.specs.Choice.{IsNeeded}
use Rattle.elasticlunr_piece_head.proofs.Numbers.{token_more}
use Rattle.elasticlunr_piece_head.proofs.Splitting.{bytes_at}
use Rattle.elasticlunr_piece_head.proofs.head.PieceHead.pieces_for.Goals as goal

pub loop-token-preserved : goal.loop-token-preserved
loop-token-preserved c sorted =
    let firsts = bytes_of c.args.self.now.tries.items in
    let tokens = c.args.tokens.now in
    let i = c.loop-token.token-index in
    let here : string_bytes c.token-item.result ≡ get_or (bytes_of tokens) i [] =
    sym (bytes_at tokens i c.token-item.result c.loop-token-test.true ∙ ap string_bytes (sym c.token-item.is)) in
    token_more (λ k q. IsNeeded firsts c.args.expand (get_or (bytes_of tokens) k []) q)
    (λ q. (c.pieces_with.result.from ≤ q) × (q < c.pieces_with.result.end)) c.loop-token.numbers
    c.put_range.new.numbers i c.in_ok-put_range.ensures
    (λ q. subst (λ token. ((c.pieces_with.result.from ≤ q) × (q < c.pieces_with.result.end))
    ↔ IsNeeded firsts c.args.expand token q) here (c.pieces_with.ensures sorted q))
    (c.loop-token.invariant sorted)

pub returns-clause-needed : goal.returns-clause-needed
returns-clause-needed c sorted n =
    let keys = c.loop-token.numbers.keys in
    let tokens = c.args.tokens.now in
    let items : c.in_ok-numbers.numbers.items ≡ keys = IfOk-at_ok (λ v. v.items ≡ keys) c.in_ok-numbers.was
    (items_from_collect c.collect.result c.collect.ensures.ran
    (YieldsList-from_rest keys c.into_iter.ensures.into_iter_gives.0)) in
    let there = btree_set_contains_iff nat_cmp_total exact_unsigned c.loop-token.numbers n in
    let so_far = c.loop-token.invariant sorted n in (
      λ has.
          let found = so_far.0 (there.1 (subst (λ xs. Contains xs n) items has)) in
          let low = found.1 in
          (found.0, omega (arith, low, c.loop-token.auto.token-index-end, length-map tokens string_bytes), found.2),
      λ found.
          let low = found.1 in
          subst (λ xs. Contains xs n) (sym items) (there.0 (so_far.1 (
            found.0,
            omega (arith, low, c.loop-token-test.false, length-map tokens string_bytes),
            found.2,
          ))),
    )
