-- Texts that are one, and texts that differ.
use Rattle.std.proofs.Common.{◌≡◌, ◌≢◌, ◌⊎◌, inl, inr, Bool, true, false, refl, sym, ap, ◌∙◌, true≢false, bytes_eq}
use Rattle.std.specs.Ordering.{nat_cmp, eq_by_cmp, is_eq}
use Rattle.std.specs.Cmp.Lexicographic.{slice_cmp}
use Rattle.std.proofs.lemmas.Cmp.{nat_list_cmp_total, tied_itself}
use Rattle.std.proofs.lemmas.Map.Text.{is_eq-slice_cmp}
use Rattle.std.proofs.lemmas.Slice.Eq.{bytes_eq-Decides}
use Rattle.elasticlunr_error.specs.Text.{Text}

-- two texts are one, or they differ
pub same_or_not : (s t : Text) → (s ≡ t) ⊎ (s ≢ t)
same_or_not s t = by (bytes_eq s t) refl
  where
    by : (b : Bool) → bytes_eq s t ≡ b → (s ≡ t) ⊎ (s ≢ t)
    by true e = inl ((bytes_eq-Decides s t).0 e)
    by false e = inr (λ same. true≢false (sym ((bytes_eq-Decides s t).1 same) ∙ e))

-- equal texts tie, and no others
pub text_tie : (q t : Text) → eq_by_cmp (slice_cmp nat_cmp) q t ≡ true → q ≡ t
text_tie q t e = (bytes_eq-Decides q t).0 (sym (is_eq-slice_cmp q t) ∙ e)

pub text_tied : (t : Text) → eq_by_cmp (slice_cmp nat_cmp) t t ≡ true
text_tied t = ap is_eq (tied_itself nat_list_cmp_total t)

-- texts that differ do not tie
pub no_tie : (q r : Text) → q ≢ r → eq_by_cmp (slice_cmp nat_cmp) q r ≡ false
no_tie q r apart = by (eq_by_cmp (slice_cmp nat_cmp) q r) refl
  where
    by : (b : Bool) → eq_by_cmp (slice_cmp nat_cmp) q r ≡ b → eq_by_cmp (slice_cmp nat_cmp) q r ≡ false
    by true e = absurd (apart (text_tie q r e))
    by false e = e
