use Rattle.std.proofs.Common.{◌≡◌, ◌≤◌, ◌<◌, ◌||◌, length, set, true≢false, inl, inr, refl, sym, ap, ◌∙◌, arith}
use Rattle.std.proofs.lemmas.Bool.{cases_lt}
use Rattle.elasticlunr_input.proofs.Noting.{with_text_past, with_text_within}
use Rattle.elasticlunr_input.proofs.notes.Notes.text.Goals as goal
use Rattle.elasticlunr_input.proofs.notes.Notes.text.Goals.{then-has_text, else-has_text}

pub returns-in_default-clause-texts : goal.returns-in_default-clause-texts
returns-in_default-clause-texts c =
    let flags = c.args.self.now.has_text.items in
    let past : length flags ≤ c.args.field = elim (cases_lt c.args.field (length flags)) [
      | inl less ↦ absurd (true≢false (sym (c.in_default.ensures.variant.1
          (omega (arith, less, c.args.self.now.has_text.ok.0)))))
      | inr past ↦ past
    ] in
    c.in_ok-push.ensures.items ∙ with_text_past flags c.args.field c.args.is_text past

pub returns-clause-texts : goal.returns-clause-texts
returns-clause-texts c =
    let flags = c.args.self.now.has_text.items in
    let field = c.args.field in
    let is_text = c.args.is_text in
    let was = c.in-Some.has_text.now in
    let within : field < length flags =
    omega (arith, c.in-Some.ensures.variant.0 refl, c.args.self.now.has_text.ok.0) in
    let told : c.if-has_text.has_text ≡ (was || is_text) = elim c.if-has_text.branch [
      | then-has_text w ↦ w.has_text-is ∙ (w.if-has_text.true ∙ ap (λ b. b || is_text) (sym w.if-has_text.true))
      | else-has_text w ↦ w.has_text-is ∙ ap (λ b. b || is_text) (sym w.if-has_text.false)
    ] in
    ap (λ b. set flags field b) (told ∙ ap (λ b. b || is_text) c.in-Some.ensures.value)
    ∙ with_text_within flags field is_text was within
