-- Which piece of the texts has the document of a reference that is searched for.
use Rattle.std.proofs.Common.{◌≡◌, ◌<◌, ◌≤◌, ◌+◌, ◌↔◌, ℕ, suc, Option, Some, None, Ok, Err, length, take, String, Global}
use Rattle.std.proofs.Common.{string_bytes, sym, ap, subst, ◌∙◌, arith}
use Rattle.std.specs.List.Sorted.{IsBinarySearchResult, IsSearchInRange, IsStrictlySortedBy}
use Rattle.std.specs.Prelude.{slice_get, string_cmp, sum}
use Rattle.elasticlunr_error.specs.Text.{bytes_of, text_cmp}
use Rattle.elasticlunr_piece_head.specs.Holders.{HasDocument, holders_from}
use Rattle.elasticlunr_piece_head.specs.declared.head.PieceHead.{PieceHead}
use Rattle.elasticlunr_piece_head.proofs.Holders.{HasPlace, held_at, held_by}
use Rattle.elasticlunr_piece_head.proofs.Splitting.{absent, found_there, only_there}

module _ (head : PieceHead) (x : String Global) (sorted : IsStrictlySortedBy text_cmp (bytes_of head.references.items))
  where
    pub found_holder : (i : ℕ) → IsSearchInRange (Ok i) (length head.references.items)
        → IsBinarySearchResult (λ y. string_cmp y x) head.references.items (Ok i) → (o : Option ℕ)
        → slice_get (holders_from 0 head.texts.items) i ≡ o → (n : ℕ)
        → (o ≡ Some n) ↔ HasDocument head n (string_bytes x)
    found_holder i lt at o is n = (there, back)
      where
        there : o ≡ Some n → HasDocument head n (string_bytes x)
        there e =
            let held = held_at head.texts.items 0 i n (is ∙ e) in
            let number = held.1 in
            let same : held.0 ≡ n = omega (arith, number) in
            let one : suc n ≡ n + 1 = omega arith in
            let place = subst (λ k. HasPlace head.texts.items k i) same held.2 in
            record {
              place = i;
              there = found_there x head.references.items sorted i lt at;
              from = place.from;
              end = subst (λ k. i < sum (take k head.texts.items)) one place.end;
            }

        back : HasDocument head n (string_bytes x) → o ≡ Some n
        back document =
            let same : document.place ≡ i =
            only_there x head.references.items sorted i lt at document.place document.there in
            let one : n + 1 ≡ suc n = omega arith in
            let number : 0 + n ≡ n = omega arith in
            sym is
            ∙ held_by head.texts.items 0 n i (subst (λ p. sum (take n head.texts.items) ≤ p) same document.from)
            (subst (λ k. i < sum (take k head.texts.items)) one
            (subst (λ p. p < sum (take (n + 1) head.texts.items)) same document.end))
            ∙ ap Some number

    pub no_holder : (i : ℕ) → IsSearchInRange (Err i) (length head.references.items)
        → IsBinarySearchResult (λ y. string_cmp y x) head.references.items (Err i) → (n : ℕ)
        → (None ≡ Some n) ↔ HasDocument head n (string_bytes x)
    no_holder i le point n = (
      λ e. absurd (cc (e)),
      λ document. absurd (absent x head.references.items sorted i le point document.place document.there),
    )
