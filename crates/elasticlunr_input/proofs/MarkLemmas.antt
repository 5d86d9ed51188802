-- On a text without its byte order mark.
use Rattle.std.proofs.Common.{◌≡◌, ◌⊎◌, ◌++◌, ◌==◌, ◌&&◌, Bool, true, false, [], ◌∷◌, length, Option, None}
use Rattle.std.proofs.Common.{Some, IfSome, if◌then◌else◌, inl, inr, refl, sym, ap, subst, ◌∙◌}
use Rattle.std.specs.Fmt.{option_append}
use Rattle.std.specs.Io.KnownBytes.{Consumes, IsAtEnd}
use Rattle.elasticlunr_text.specs.Text.{Bytes}
use Rattle.elasticlunr_diagnostics.specs.Forms.{asked_or_told}
use Rattle.elasticlunr_diagnostics.specs.Messages.{IsMemoryOrDevice}
use Rattle.elasticlunr_diagnostics.specs.declared.form.Form.{Form}
use Rattle.elasticlunr_diagnostics.specs.declared.message.InputError.{InputError}
use Rattle.elasticlunr_diagnostics.specs.declared.message.InputError.TheVariants.{Refused, Memory, Device}
use Rattle.elasticlunr_diagnostics.specs.declared.message.InputError.TheVariants.{TooManyLines}
use Rattle.elasticlunr_input.specs.Mark.{without_mark}
use Rattle.elasticlunr_input.specs.RefusedRead.{IsRefusedFrom}
use Rattle.elasticlunr_input.specs.Settled.{Settings}

-- the first three bytes tell whether there is a mark
without_mark-append : (start rest : Bytes) → (length start ≡ 3) ⊎ (rest ≡ []) → without_mark (start ++ rest)
    ≡ without_mark start ++ rest
without_mark-append [] rest (inl three) = (cc)
without_mark-append [] rest (inr none) = ap without_mark none ∙ sym none
without_mark-append (a ∷ []) rest (inl three) = (cc)
without_mark-append (a ∷ []) rest (inr none) = ap (λ r. without_mark (a ∷ r)) none ∙ ap (λ r. a ∷ r) (sym none)
without_mark-append (a ∷ (b ∷ [])) rest (inl three) = (cc)
without_mark-append (a ∷ (b ∷ [])) rest (inr none) = ap (λ r. without_mark (a ∷ (b ∷ r))) none
    ∙ ap (λ r. a ∷ (b ∷ r)) (sym none)
without_mark-append (a ∷ (b ∷ (c ∷ more))) rest h = either ((a == 0xef) && (b == 0xbb) && (c == 0xbf))
  where
    either : (is_mark : Bool) → (if is_mark then more ++ rest else a ∷ b ∷ c ∷ (more ++ rest))
        ≡ (if is_mark then more else a ∷ b ∷ c ∷ more) ++ rest
    either true = refl
    either false = refl

-- what is so of the start without its mark, and what is after it, is so of the whole without its mark
pub of_whole : (P : Bytes → Type 0) (old now : Option Bytes) (start : Bytes) → Consumes old now start
    → (length start ≡ 3) ⊎ IsAtEnd now → IfSome (option_append (Some (without_mark start)) now) P
    → IfSome old (λ text. P (without_mark text))
of_whole P None now start taken whole is = tt
of_whole P (Some text) None start taken whole is = absurd taken
of_whole P (Some text) (Some rest) start taken whole is =
    subst P (sym (ap without_mark taken ∙ without_mark-append start rest whole)) is

module _ (asked : Option Form) (settings : Settings) where
  -- nothing was read that could be refused
  pub start_not_read : (left : Option Bytes) (e : InputError) → IsMemoryOrDevice e
      → IfSome left (λ text. IsRefusedFrom (asked_or_told asked (without_mark text)) settings (without_mark text) e)
  start_not_read None e other = tt
  start_not_read (Some text) Memory other = tt
  start_not_read (Some text) (Device failed) other = tt
  start_not_read (Some text) (Refused message) other = absurd other
  start_not_read (Some text) TooManyLines other = absurd other
