use Rattle.std.proofs.Common.{◌≡◌, ◌∷◌, inl, inr, length, map, string_bytes, option_map, arith, sym, ap, ◌∙◌}
use Rattle.std.proofs.lemmas.Map.Text.{btree_map_updates_str}
use Rattle.std.specs.List.{zip}
use Rattle.std.specs.BTreeMap.{get_by}
use Rattle.elasticlunr_error.specs.Text.{text_cmp}
use Rattle.elasticlunr_print.specs.Sorted.{last_under}
use Rattle.elasticlunr_print.proofs.Sorting.{put_under, nothing_left}
use Rattle.elasticlunr_print.proofs.write.by_name.Goals as goal

pub loop-name-preserved : goal.loop-name-preserved
loop-name-preserved c =
    let steps = c.in-Some.ensures.steps in
    let many = c.loop-name.invariant.0 in
    let names = map string_bytes c.next.new.self.a.rest.now in
    let tries = c.next.new.self.b.rest.now in
    let updated = btree_map_updates_str c.as_str.result.now c.loop-name.sorted c.insert.new.self _
    c.in_ok-insert.ensures.updates in (
      omega (arith, ap length steps.0, ap length steps.1, many),
      λ q.
          let old = get_by (λ k. text_cmp q k.now) c.loop-name.sorted in
          put_under q c.as_str.result.now (string_bytes c.in-Some.name.now) c.in-Some.trie old
          (get_by (λ k. text_cmp q k.now) c.insert.new.self) names tries c.as_str.ensures.value (updated q)
          ∙ ap (λ ns. last_under q (option_map (λ t. t.now) old)
          (zip (map string_bytes ns) (c.in-Some.trie.now ∷ tries))) (sym steps.0)
          ∙ ap (λ ts. last_under q (option_map (λ t. t.now) old)
          (zip (map string_bytes c.loop-name.name-iterator.a.rest.now) ts)) (sym steps.1)
          ∙ c.loop-name.invariant.1 q,
    )

pub returns : goal.returns
returns c q =
    let sorted = option_map (λ t. t.now) (get_by (λ k. text_cmp q k.now) c.loop-name.sorted) in
    let names = c.loop-name.name-iterator.a.rest.now in
    let tries = c.loop-name.name-iterator.b.rest.now in
    let many = c.loop-name.invariant.0 in
    let none : length names ≡ 0 = elim c.in-None.ensures.steps [ inl a ↦ a.1.0 | inr b ↦ sym many ∙ b.1.0 ] in
    sym (nothing_left q sorted names tries none) ∙ c.loop-name.invariant.1 q
