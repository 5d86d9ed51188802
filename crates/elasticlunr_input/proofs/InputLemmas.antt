-- On an input in the form that its head tells.
use Rattle.std.proofs.Common.{◌≡◌, ◌++◌, Option, None, Some, IfSome, Result, Ok, Err, IfErr, inr, refl, sym, subst, ◌∙◌}
use Rattle.elasticlunr_text.specs.Text.{Bytes}
use Rattle.elasticlunr_job.specs.Answer.{OfIndex}
use Rattle.elasticlunr_documents.specs.declared.lines.LastLine.{LastLine}
use Rattle.elasticlunr_diagnostics.specs.Forms.{asked_or_told}
use Rattle.elasticlunr_input.specs.Indexes.{IsMadeAs, IsMadeFrom, IsPlacedIfNotJson, IsRefusedInput}
use Rattle.elasticlunr_input.specs.Inputs.{HasHead, IsHeadOf}
use Rattle.elasticlunr_input.specs.Lines.{IsLinesMadeWith}
use Rattle.elasticlunr_diagnostics.specs.Messages.{IfPlaced, IsMemoryOrDevice}
use Rattle.elasticlunr_input.specs.RefusedPlaces.{IsInputPlace, IsLinesPlace}
use Rattle.elasticlunr_input.specs.RefusedRead.{AreRefusedFrom, IsReadOf, IsRefusedFrom}
use Rattle.elasticlunr_input.specs.Settled.{Settings}
use Rattle.elasticlunr_diagnostics.specs.declared.form.Form.{Form}
use Rattle.elasticlunr_diagnostics.specs.declared.form.Form.TheVariants.{Lines}
use Rattle.elasticlunr_diagnostics.specs.declared.message.InputError.{InputError}
use Rattle.elasticlunr_diagnostics.specs.declared.message.InputError.TheVariants.{Refused, Memory, Device}
use Rattle.elasticlunr_diagnostics.specs.declared.message.InputError.TheVariants.{TooManyLines}
use Rattle.elasticlunr_input.proofs.HeadLemmas.{told_head}
use Rattle.elasticlunr_input.proofs.LinePlaces.{some_for}

pub err_three : {T : Type 0} (r : Result T InputError) (P Q R S : InputError → Type 0)
    → ((e : InputError) → P e → Q e → R e → S e) → IfErr r P → IfErr r Q → IfErr r R → IfErr r S
err_three (Ok x) P Q R S more p q s = tt
err_three (Err e) P Q R S more p q s = more e p q s

-- what is said only where something is so that is not
pub err_unless : {T : Type 0} (r : Result T InputError) (C : Type 0) (P : InputError → Type 0) → ¬ C
    → IfErr r (λ e. C → P e)
err_unless (Ok x) C P never = tt
err_unless (Err e) C P never = λ is. absurd (never is)

-- what is so of the text of an input in its form
module _ (asked : Option Form) (P : Form → Bytes → Type 0) where
  pub lines_as : (left now : Option Bytes) (head : Bytes) (last : LastLine) → HasHead left now head last
      → asked_or_told asked head ≡ Lines
      → IfSome now (λ rest. IsHeadOf head rest last.text.items last.before → P Lines (head ++ rest))
      → IfSome left (λ text. P (asked_or_told asked text) text)
  lines_as None now head last has told is = tt
  lines_as (Some text) None head last has told is = absurd has
  lines_as (Some text) (Some rest) head last has told is =
      subst (λ t. P (asked_or_told asked t) t) (sym has.0)
      (subst (λ f. P f (head ++ rest))
      (sym (told_head head rest last.text.items last.before has.1 asked ∙ told)) (is has.1))

  -- the other forms, whose text is all read
  pub whole_as : (form : Form) (left now : Option Bytes) (head all : Bytes) (last : LastLine)
      → HasHead left now head last → asked_or_told asked head ≡ form → IfSome now (λ rest. all ≡ head ++ rest)
      → P form all → IfSome left (λ text. P (asked_or_told asked text) text)
  whole_as form None now head all last has told whole is = tt
  whole_as form (Some text) None head all last has told whole is = absurd has
  whole_as form (Some text) (Some rest) head all last has told whole is =
      subst (λ t. P (asked_or_told asked t) t) (sym has.0)
      (subst (λ f. P f (head ++ rest))
      (sym (told_head head rest last.text.items last.before has.1 asked ∙ told)) (subst (P form) whole is))

module _ (asked : Option Form) (settings : Settings) where
  -- nothing was read that could be refused
  pub not_read : (left : Option Bytes) (e : InputError) → IsMemoryOrDevice e
      → IfSome left (λ text. IsRefusedFrom (asked_or_told asked text) settings text e)
  not_read None e other = tt
  not_read (Some text) Memory other = tt
  not_read (Some text) (Device failed) other = tt
  not_read (Some text) (Refused message) other = absurd other
  not_read (Some text) TooManyLines other = absurd other

  -- lines
  pub lines_ok : (left now : Option Bytes) (head : Bytes) (Is : OfIndex) (last : LastLine) → HasHead left now head last
      → asked_or_told asked head ≡ Lines
      → IfSome now (λ rest. IsHeadOf head rest last.text.items last.before
      → IsLinesMadeWith settings (head ++ rest) Is) → IfSome left (λ text. IsMadeFrom asked settings text Is)
  lines_ok left now head Is last has told is =
      lines_as asked (λ form text. IsMadeAs form settings text Is) left now head last has told is

  as_input : (text : Bytes) (e : InputError) → AreRefusedFrom settings text e → IsRefusedFrom Lines settings text e
  as_input text Memory is = tt
  as_input text (Device failed) is = tt
  as_input text TooManyLines is = (refl, is)
  as_input text (Refused message) is = (
    is.0,
    is.1,
    inr is.2,
    some_for (IsLinesPlace settings is.0)
        (IsInputPlace Lines settings is.0) message.place (λ place at. inr at) is.3,
    (λ not. absurd not),
  )

  pub lines_err : (left now : Option Bytes) (head : Bytes) (last : LastLine) (e : InputError)
      → HasHead left now head last → asked_or_told asked head ≡ Lines
      → IfSome now (λ rest. IsHeadOf head rest last.text.items last.before → AreRefusedFrom settings (head ++ rest) e)
      → IfSome left (λ text. IsRefusedFrom (asked_or_told asked text) settings text e)
  lines_err None now head last e has told is = tt
  lines_err (Some text) None head last e has told is = absurd has
  lines_err (Some text) (Some rest) head last e has told is =
      subst (λ t. IsRefusedFrom (asked_or_told asked t) settings t e) (sym has.0)
      (subst (λ f. IsRefusedFrom f settings (head ++ rest) e)
      (sym (told_head head rest last.text.items last.before has.1 asked ∙ told))
      (as_input (head ++ rest) e (is has.1)))

  -- the other forms, whose text is all read
  pub whole_ok : (form : Form) (left now : Option Bytes) (head all : Bytes) (Is : OfIndex) (last : LastLine)
      → HasHead left now head last → asked_or_told asked head ≡ form → IfSome now (λ rest. all ≡ head ++ rest)
      → IsMadeAs form settings all Is → IfSome left (λ text. IsMadeFrom asked settings text Is)
  whole_ok form left now head all Is last has told whole is =
      whole_as asked (λ kind text. IsMadeAs kind settings text Is) form left now head all last has told whole is

  refused_whole : (form : Form) (text : Bytes) (e : InputError) → IsReadOf form text text
      → IsRefusedInput form settings text e → IfPlaced (IsInputPlace form settings text) e
      → IsPlacedIfNotJson form text e → IsRefusedFrom form settings text e
  refused_whole form text Memory reads is there placed = tt
  refused_whole form text (Device failed) reads is there placed = tt
  refused_whole form text TooManyLines reads is there placed = absurd is
  refused_whole form text (Refused message) reads is there placed = (text, reads, is, there, placed)

  pub whole_err : (form : Form) (left now : Option Bytes) (head all : Bytes) (last : LastLine) (e : InputError)
      → HasHead left now head last → asked_or_told asked head ≡ form → IfSome now (λ rest. all ≡ head ++ rest)
      → IsReadOf form all all
      → IsRefusedInput form settings all e → IfPlaced (IsInputPlace form settings all) e → IsPlacedIfNotJson form all e
      → IfSome left (λ text. IsRefusedFrom (asked_or_told asked text) settings text e)
  whole_err form None now head all last e has told whole reads is there placed = tt
  whole_err form (Some text) None head all last e has told whole reads is there placed = absurd has
  whole_err form (Some text) (Some rest) head all last e has told whole reads is there placed =
      subst (λ t. IsRefusedFrom (asked_or_told asked t) settings t e) (sym has.0)
      (subst (λ f. IsRefusedFrom f settings (head ++ rest) e)
      (sym (told_head head rest last.text.items last.before has.1 asked ∙ told))
      (subst (λ t. IsRefusedFrom form settings t e) whole (refused_whole form all e reads is there placed)))
