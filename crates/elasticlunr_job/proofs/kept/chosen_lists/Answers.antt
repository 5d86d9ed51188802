use Rattle.std.proofs.Common.{◌≡◌, ◌++◌, ◌∷◌, ◌∙◌, [], inl, inr, map, ap, rules, subst, sym, append-nil}
use Rattle.std.proofs.lemmas.List.{map-append}
use Rattle.std.specs.List.{zip}
use Rattle.elasticlunr.specs.Fields.{borrowed}
use Rattle.elasticlunr_text.specs.Text.{texts_of}
use Rattle.elasticlunr_job.specs.Commands.{kept_words}
use Rattle.elasticlunr_job_format.specs.Rules.{rules_told}
use Rattle.elasticlunr_job.proofs.KeptWords.{zip_next, zip_none}
use Rattle.elasticlunr_job.proofs.kept.chosen_lists.Goals as goal

pub loop-field-init : goal.loop-field-init
loop-field-init c =
    let fields = c.into_iter-field-iterator.result.a.rest.now in
    let values = c.into_iter-field-iterator.result.b.rest.now in
    let first : fields ≡ c.args.fields.now = search rules in
    let second : values ≡ c.args.values.now = search rules in
    ap (λ kept. map (λ words. texts_of words.items) kept
    ++ map (λ both. kept_words (rules_told c.args.rules.now) both.0 both.1) (zip (borrowed fields) (borrowed values)))
    c.in_ok-kept.ensures.items
    ∙ ap (λ names. map (λ both. kept_words (rules_told c.args.rules.now) both.0 both.1)
    (zip (borrowed names) (borrowed values))) first
    ∙ ap (λ texts. map (λ both. kept_words (rules_told c.args.rules.now) both.0 both.1)
    (zip (borrowed c.args.fields.now) (borrowed texts))) second

pub loop-field-preserved : goal.loop-field-preserved
loop-field-preserved c =
    let steps = c.in-Some.ensures.steps in
    let left = map (λ both. kept_words (rules_told c.args.rules.now) both.0 both.1)
    (zip (borrowed c.next.new.self.a.rest.now) (borrowed c.next.new.self.b.rest.now)) in
    let whole = map (λ both. kept_words (rules_told c.args.rules.now) both.0 both.1)
    (zip (borrowed c.args.fields.now) (borrowed c.args.values.now)) in
    let kept = c.loop-field.kept.items in
    subst (λ lists. map (λ words. texts_of words.items) lists ++ left ≡ whole) (sym c.in_ok-push.ensures.items)
    (subst (λ lists. lists ++ left ≡ whole)
    (sym (map-append (λ words. texts_of words.items) kept (c.in_ok-kept_words.field-0 ∷ [])))
    (zip_next (λ s. s.now) (λ s. s.now) (λ both. kept_words (rules_told c.args.rules.now) both.0 both.1)
    (map (λ words. texts_of words.items) kept) c.loop-field.field-iterator.a.rest.now c.next.new.self.a.rest.now
    c.loop-field.field-iterator.b.rest.now c.next.new.self.b.rest.now c.in-Some.field.now c.in-Some.value.now
    (texts_of c.in_ok-kept_words.field-0.items) whole steps.0 steps.1 c.in_ok-kept_words.ensures
    c.loop-field.invariant))

pub returns : goal.returns
returns c =
    let kept = map (λ words. texts_of words.items) c.loop-field.kept.items in
    let fields = c.loop-field.field-iterator.a.rest.now in
    let values = c.loop-field.field-iterator.b.rest.now in
    let none : zip (borrowed fields) (borrowed values) ≡ [] =
    zip_none (λ s. s.now) (λ s. s.now) fields values
    (elim c.in-None.ensures.steps [ inl a ↦ inl a.1.0 | inr b ↦ inr b.1.0 ]) in
    let whole = sym (append-nil kept)
    ∙ sym (ap (λ pairs. kept ++ map (λ both. kept_words (rules_told c.args.rules.now) both.0 both.1) pairs) none)
    ∙ c.loop-field.invariant in
    whole
