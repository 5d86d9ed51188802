use Rattle.std.proofs.Common.{◌≡◌, ◌<◌, ◌≤◌, ◌+◌, ◌||◌, ◌==◌, [], not, false, get_or, length, min, take, sym, ap, subst, ◌∙◌, arith}
use Rattle.std.proofs.Common.{Bool, Global, Vec, slice_get, unwrap_or}
use Rattle.std.proofs.lemmas.List.{get_or-map, length-map}
use Rattle.elasticlunr_job_format.specs.ObjectsTold.{texts_told}
use Rattle.elasticlunr_text.specs.Text.{Bytes}
use Rattle.elasticlunr_input.specs.Noted.{all_too_long, is_only_stored, too_long_in}
use Rattle.elasticlunr_input.specs.Warnings.{has_text}
use Rattle.elasticlunr_input.proofs.Noting.{capped, same_limits, text_at, too_long_step, value_more}
use Rattle.elasticlunr_input.proofs.Noting.{with_text_here, with_text_long, with_text_others}
use Rattle.std.proofs.Common.{rules}
use Rattle.std.proofs.lemmas.Grind.{common_steps}
use Rattle.elasticlunr_input.proofs.notes.Notes.values.Goals as goal

pub loop-field-preserved : goal.loop-field-preserved
loop-field-preserved c =
    let so_far = c.loop-field.invariant in
    let old = c.args.self.now in
    let mid = c.loop-field.self in
    let given = c.args.values.now in
    let values = texts_told given in
    let i = c.loop-field.field in
    let none : Bytes = [] in
    let value : Bytes = (get_or given i (record { ref_ptr = (0, 0); now = [] })).now in
    let is_text = not c.is_empty.result in
    let flags = mid.has_text.items in
    let after = c.text.new.self.has_text.items in
    let new = c.value.new.self.has_text.items in
    let within : i < length given = c.loop-field-test.true in
    let less : i < length values = omega (arith, within, length-map given (λ s. s.now)) in
    let here : get_or values i [] ≡ value =
    get_or-map (λ s. s.now) given i (record { ref_ptr = (0, 0); now = [] }) [] within in
    let told : is_text ≡ not (length (get_or values i []) == 0) =
    ap not (c.is_empty.ensures ∙ ap (λ (v : Bytes). length v == 0) (sym here)) in
    let moved = ap (λ (v : Vec Bool Global). v.items) c.value.ensures.seen ∙ c.in_ok-text.ensures.texts in
    let texts = value_more (has_text old) flags new values i less
    (ap (λ fs. get_or fs i false) moved ∙ (with_text_here flags i is_text so_far.filled
    ∙ ap (λ b. get_or flags i false || b) told))
    (λ n other. ap (λ fs. get_or fs n false) moved ∙ with_text_others flags i is_text n so_far.filled other)
    (λ n. sym (text_at mid n) ∙ so_far.texts n) in
    let limits = same_limits old mid c.text.new.self so_far.limits c.text.ensures.limits in
    let count = all_too_long old.longest (is_only_stored old) (take i values) in
    let so_many = min (old.longer + count) 18446744073709551615 in
    let then = c.text.new.self in
    let its = too_long_in old.longest (is_only_stored old i) in
    record {
      warnings = c.value.ensures.warnings ∙ (c.text.ensures.warnings ∙ so_far.warnings);
      references = c.value.ensures.references ∙ (c.text.ensures.references ∙ so_far.references);
      taken = c.value.ensures.taken ∙ (c.text.ensures.taken ∙ so_far.taken);
      known = c.value.ensures.known ∙ (c.text.ensures.known ∙ so_far.known);
      limits = same_limits old c.text.new.self c.value.new.self limits c.value.ensures.limits;
      filled = subst (λ fs. i + 1 ≤ length fs) (sym moved) (with_text_long flags i is_text so_far.filled);
      texts = λ n. text_at c.value.new.self n ∙ texts n;
      words = c.in_ok-value.ensures.words
          ∙ (ap (λ n. min (n + too_long_in then.longest (is_only_stored then i) value) 18446744073709551615)
          (c.text.ensures.words ∙ so_far.words)
          ∙ (ap (λ l. min (so_many + too_long_in l (is_only_stored then i) value) 18446744073709551615) limits.0
          ∙ (ap (λ (v : Vec Bool Global). min (so_many + too_long_in old.longest
          (unwrap_or (slice_get v.items i) false) value) 18446744073709551615) limits.1
          ∙ (capped old.longer count (its value) 18446744073709551615
          ∙ ap (λ n. min (old.longer + n) 18446744073709551615) (ap (λ v. count + its v) (sym here)
          ∙ sym (too_long_step old.longest (is_only_stored old) values i less))))));
    }

pub loop-field-init : goal.loop-field-init
loop-field-init c = search rules

pub returns-clause-warnings : goal.returns-clause-warnings
returns-clause-warnings c = search rules

pub returns-clause-references : goal.returns-clause-references
returns-clause-references c = search rules

pub returns-clause-taken : goal.returns-clause-taken
returns-clause-taken c = search rules

pub returns-clause-texts : goal.returns-clause-texts
returns-clause-texts c = grind (arith, common_steps)

pub returns-clause-words : goal.returns-clause-words
returns-clause-words c = grind (arith, common_steps)

pub returns-clause-known : goal.returns-clause-known
returns-clause-known c = search rules

pub returns-clause-limits : goal.returns-clause-limits
returns-clause-limits c = search rules
