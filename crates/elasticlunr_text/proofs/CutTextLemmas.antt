-- On texts whose ends are cut, as bytes.
use Rattle.std.proofs.Common.{◌≡◌, ℕ, ◌+◌, ◌-◌, ◌≤◌, Bool, List, ◌++◌, length, take, drop, sym, ap, ◌∙◌, subst, arith}
use Rattle.std.proofs.Common.{length-append}
use Rattle.std.proofs.Math.Seq.{take-append_seam, drop-append_seam}
use Rattle.std.proofs.lemmas.Str.{encodes-chars, encodes-append, IsCharBoundary-from_take, IsCharBoundary-at_seam}
use Rattle.std.specs.Str.{chars, IsUtf8, encode_utf8_all}
use Rattle.std.specs.String.Boundary.{IsSplitPoint}
use Rattle.elasticlunr_text.specs.Trimmed.{from_first, up_to_last}
use Rattle.elasticlunr_text.proofs.TrimmingLaws.{from_first-split, up_to_last-split}

module _ (in_class : ℕ → Bool) (t u : List ℕ) (utf8 : IsUtf8 t) (left_utf8 : IsUtf8 u) where
  -- what follows a beginning that was cut stands at the end
  pub from_first-bytes : chars u ≡ from_first in_class (chars t) → (front : List ℕ) × (t ≡ front ++ u)
  from_first-bytes same =
      let split = from_first-split in_class (chars t) in (
        encode_utf8_all split.0,
        sym (encodes-chars t utf8) ∙ ap encode_utf8_all split.1 ∙ encodes-append split.0 (from_first in_class (chars t))
            ∙ ap (λ xs. encode_utf8_all split.0 ++ xs) (ap encode_utf8_all (sym same) ∙ encodes-chars u left_utf8),
      )

  -- what an end was cut from stands at the beginning
  pub up_to_last-bytes : chars u ≡ up_to_last in_class (chars t) → (rest : List ℕ) × (t ≡ u ++ rest)
  up_to_last-bytes same =
      let split = up_to_last-split in_class (chars t) in (
        encode_utf8_all split.0,
        sym (encodes-chars t utf8) ∙ ap encode_utf8_all split.1 ∙ encodes-append (up_to_last in_class (chars t)) split.0
            ∙ ap (λ xs. xs ++ encode_utf8_all split.0) (ap encode_utf8_all (sym same) ∙ encodes-chars u left_utf8),
      )

  pub from_first-length : chars u ≡ from_first in_class (chars t) → length u ≤ length t
  from_first-length same =
      let (front, split) = from_first-bytes same in
      let whole : length t ≡ length front + length u = ap (λ xs. length xs) split ∙ length-append front u in
      omega (arith, whole)

  -- the place up to which the beginning is cut
  pub cut-place : (n : ℕ) → chars u ≡ from_first in_class (chars t) → n ≡ length t - length u → IsSplitPoint t n
      × (drop n t ≡ u)
  cut-place n same is =
      let (front, split) = from_first-bytes same in
      let whole : length t ≡ length front + length u = ap (λ xs. length xs) split ∙ length-append front u in
      let place : length front ≡ n = omega (arith, whole, is) in
      let seam = IsCharBoundary-at_seam t front u split left_utf8 in
      subst (λ (m : ℕ). IsSplitPoint t m × (drop m t ≡ u)) place
      ((seam.0, λ some. seam.1), ap (λ xs. drop (length front) xs) split ∙ drop-append_seam front u)

  -- the place from which the end is cut
  pub kept-place : (n : ℕ) → chars u ≡ up_to_last in_class (chars t) → n ≡ length u → IsSplitPoint t n × (take n t ≡ u)
  kept-place n same is =
      let (rest, split) = up_to_last-bytes same in
      let whole : length t ≡ length u + length rest = ap (λ xs. length xs) split ∙ length-append u rest in
      let front : take (length u) t ≡ u = ap (λ xs. take (length u) xs) split ∙ take-append_seam u rest in
      let seam = IsCharBoundary-from_take t (length u) utf8 (omega (arith, whole))
      (subst (λ (xs : List ℕ). IsUtf8 xs) (sym front) left_utf8) in
      subst (λ (m : ℕ). IsSplitPoint t m × (take m t ≡ u)) (sym is) ((seam.0, λ some. seam.1), front)
