use Rattle.std.proofs.Common.{◌≡◌, ◌↔◌, [], get_or, map, Some, string_bytes, sym, ap, subst, arith, ◌∙◌}
use Rattle.std.specs.Prelude.{Contains}
use Rattle.std.proofs.lemmas.Cmp.{nat_cmp_total}
use Rattle.std.proofs.lemmas.Iterator.{items_from_collect}
use Rattle.std.proofs.lemmas.Iterator.Consumers.{YieldsList-from_rest}
use Rattle.std.proofs.lemmas.List.{get_or-map, length-map}
use Rattle.std.proofs.lemmas.Result.{IfOk-at_ok}
use Rattle.std.proofs.lemmas.Map.Lookups.{exact_unsigned}
use Rattle.std.proofs.lemmas.Map.Views.{btree_set_contains_iff}
use Rattle.elasticlunr_piece_head.specs.Holders.{HasDocument}
use Rattle.elasticlunr_piece_head.proofs.Numbers.{token_more}
use Rattle.elasticlunr_piece_head.proofs.head.PieceHead.pieces_with_texts.Goals as goal

pub loop-reference-preserved : goal.loop-reference-preserved
loop-reference-preserved c sorted =
    let head = c.args.self.now in
    let references = c.args.references.now in
    let i = c.loop-reference.reference-index in
    let here : string_bytes c.reference-item.result.now ≡ get_or (map (λ r. string_bytes r.now) references) i [] =
    sym (get_or-map (λ r. string_bytes r.now) references i c.reference-item.result [] c.loop-reference-test.true
    ∙ ap (λ r. string_bytes r.now) (sym c.reference-item.is)) in
    token_more (λ k q. HasDocument head q (get_or (map (λ r. string_bytes r.now) references) k []))
    (λ q. c.holder_in.result ≡ Some q) c.loop-reference.numbers
    c.put_number.new.numbers i c.in_ok-put_number.ensures
    (λ q. subst (λ r. (c.holder_in.result ≡ Some q) ↔ HasDocument head q r) here (c.holder_in.ensures sorted q))
    (c.loop-reference.invariant sorted)

pub returns-clause-needed : goal.returns-clause-needed
returns-clause-needed c sorted n =
    let keys = c.loop-reference.numbers.keys in
    let references = c.args.references.now in
    let items : c.in_ok-numbers.numbers.items ≡ keys = IfOk-at_ok (λ v. v.items ≡ keys) c.in_ok-numbers.was
    (items_from_collect c.collect.result c.collect.ensures.ran
    (YieldsList-from_rest keys c.into_iter.ensures.into_iter_gives.0)) in
    let there = btree_set_contains_iff nat_cmp_total exact_unsigned c.loop-reference.numbers n in
    let so_far = c.loop-reference.invariant sorted n in
    let counted = length-map references (λ r. string_bytes r.now) in (
      λ has.
          let found = so_far.0 (there.1 (subst (λ xs. Contains xs n) items has)) in
          let low = found.1 in
          (found.0, omega (arith, low, c.loop-reference.auto.reference-index-end, counted), found.2),
      λ found.
          let low = found.1 in
          subst (λ xs. Contains xs n) (sym items) (there.0 (so_far.1 (
            found.0,
            omega (arith, low, c.loop-reference-test.false, counted),
            found.2,
          ))),
    )
