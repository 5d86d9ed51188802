use Rattle.std.proofs.Common.{◌≡◌, ◌++◌, ◌∷◌, [], ℕ, Bor, sym, ap, subst, ◌∙◌, append-nil, length, take, map, string_bytes, refl, arith}
use Rattle.std.specs.Vec.Iter.{into_iter_items}
use Rattle.std.specs.List.Sorted.{IsPermutation}
use Rattle.std.proofs.Math.Seq.{take-length}
use Rattle.std.proofs.lemmas.List.{length-map, map-append, nil_from_length}
use Rattle.std.proofs.lemmas.List.Sorted.{IsPermutation-map}
use Rattle.elasticlunr_text.specs.Text.{Bytes, bytes_of}
use Rattle.elasticlunr_input.specs.Warnings.{warnings_of}
use Rattle.elasticlunr_input.proofs.Warned.{map_more, references_told, told, texts_of, wordless_more}
use Rattle.elasticlunr_input.proofs.notes.Notes.without_token.Goals as goal

pub loop-reference-preserved : goal.loop-reference-preserved
loop-reference-preserved c =
    let f = λ (document : ℕ × Bor Bytes). document.1.now in
    let is = c.reference-item.is in
    let said = c.as_str-in-loop-reference.ensures.value in
    let refs = c.args.references.now in
    let so_far = c.loop-reference.invariant.found in
    record {
      found = ap (map f) c.in_ok-push.ensures.items ∙ (map-append f c.loop-reference.found.items (_ ∷ [])
          ∙ (ap (λ rs. rs ++ c.as_str-in-loop-reference.result.now ∷ []) so_far
          ∙ (ap (λ r. take c.loop-reference.reference-index (bytes_of refs) ++ r ∷ []) said
          ∙ (ap (λ s. take c.loop-reference.reference-index (bytes_of refs) ++ string_bytes s ∷ []) is
          ∙ sym (map_more string_bytes refs c.loop-reference.reference-index c.reference-item.result
          c.loop-reference-test.true)))));
      same = refl;
    }

pub loop-number-preserved : goal.loop-number-preserved
loop-number-preserved c =
    ap (λ ws. bytes_of ws ++ texts_of (into_iter_items c.next.new.self)) c.in_ok-push-2.ensures.items
    ∙ (wordless_more c.loop-number.self.warnings.items c.in_ok-said.said (c.in-Some.number, c.in-Some.reference)
    (into_iter_items c.next.new.self) c.in_ok-said.ensures.ok
    ∙ (ap (λ rest. warnings_of c.loop-number.self ++ texts_of rest) (sym c.in-Some.ensures.steps.0)
    ∙ c.loop-number.invariant))

pub returns : goal.returns
returns c =
    let f = λ (document : ℕ × Bor Bytes). document.1.now in
    let refs = c.args.references.now in
    let found = c.loop-reference.found.items in
    let sorted = c.sort_unstable.new.self.items in
    let index = c.loop-reference.reference-index in
    let long = length-map refs string_bytes in
    let at_end : index ≡ length (bytes_of refs) =
    omega (arith, c.loop-reference-test.false, c.loop-reference.auto.reference-index-end, long) in
    let all : map f found ≡ bytes_of refs = c.loop-reference.invariant.found
    ∙ (ap (λ i. take i (bytes_of refs)) at_end ∙ take-length (bytes_of refs)) in
    let moved : IsPermutation (bytes_of refs) (map (λ (each : ℕ × Bytes). each.1) (map told sorted)) =
    subst (λ rs. IsPermutation rs (map (λ (each : ℕ × Bytes). each.1) (map told sorted))) all
    (subst (IsPermutation (map f found)) (sym (references_told sorted))
    (IsPermutation-map f found sorted c.sort_unstable.ensures.permutation)) in
    let left = c.loop-number.number-iterator in
    let none : into_iter_items left ≡ [] = nil_from_length _ (sym left.rest.ok.0 ∙ c.in-None.ensures.steps.0) in (
      map told sorted,
      sym (ap (λ rest. warnings_of c.loop-number.self ++ texts_of rest) none ∙ append-nil (warnings_of c.loop-number.self))
          ∙ (c.loop-number.invariant
          ∙ ap (λ all. warnings_of c.args.self.now ++ texts_of all)
          c.into_iter-number-iterator.ensures.into_iter_gives.0),
      moved,
    )
