use Rattle.std.proofs.Common.{◌≡◌, ◌∷◌, ◌++◌, [], map, true, false, cond, if◌then◌else◌, Some, sym, ap, ◌∙◌, true≢false}
use Rattle.serde_json.specs.View.{view}
use Rattle.elasticlunr_job_format.specs.Lines.{is_blank, is_filled}
use Rattle.elasticlunr_job_format.specs.Reading.{reading}
use Rattle.elasticlunr_job_format.proofs.Readings.{reading_some, reading_none}
use Rattle.elasticlunr_input.proofs.lines.first_value.Goals as goal

pub returns-in-Ok-clause-ok : goal.returns-in-Ok-clause-ok
returns-in-Ok-clause-ok c =
    let line = c.args.last.now.text.items in
    let blank : is_blank line ≡ false = ap is_blank (sym c.deref.ensures.value)
    ∙ (sym c.is_blank.ensures ∙ c.if-is_blank.false) in
    let filled : is_filled line ≡ true = ap (λ b. if b then false else true) blank in
    let one : c.push.new.self.items ≡ c.in-Ok.value ∷ [] = c.in_ok-push-in-Ok.ensures.items
    ∙ ap (λ vs. vs ++ c.in-Ok.value ∷ []) c.new-values.ensures.items in
    let read : reading line ≡ Some (view c.in-Ok.value) = ap reading (sym c.deref-2.ensures.value)
    ∙ reading_some _ _ c.in-Ok.ensures.ok.0 c.in-Ok.ensures.ok.1 in
    ap (λ vs. map Some (map view vs)) one ∙ (ap (λ o. o ∷ []) (sym read)
    ∙ sym (ap (λ b. map reading (cond b (line ∷ []) [])) filled))

pub returns-clause-err : goal.returns-clause-err
returns-clause-err c =
    let line = c.args.last.now.text.items in
    let blank : is_blank line ≡ false = ap is_blank (sym c.deref.ensures.value)
    ∙ (sym c.is_blank.ensures ∙ c.if-is_blank.false) in
    let none = ap reading (sym c.deref-2.ensures.value)
    ∙ reading_none _ (c.in-Err.ensures.err
    (λ m. true≢false (sym (c.is_memory.ensures.1 m) ∙ c.if-is_memory.false))) in
    (ap (λ b. if b then false else true) blank, none)
