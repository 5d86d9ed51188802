use Rattle.std.proofs.Common.{◌≡◌, ◌/◌, [], arith, ℕ, List, Bor, max, subst, ap, ◌∙◌, string_bytes, take, get_or}
use Rattle.std.proofs.lemmas.List.{length-map}
use Rattle.std.proofs.Math.Seq.{take-length}
use Rattle.std.specs.Char.{to_ascii_lowercase}
use Rattle.elasticlunr_diagnostics.proofs.Names.{next_nearer, next_no_nearer}
use Rattle.elasticlunr_diagnostics.specs.Nearest.{IsNearest, edits, few, small}
use Rattle.elasticlunr_diagnostics.proofs.nearest.nearest.Goals as goal
use Rattle.std.proofs.Common.{rules}
use Rattle.elasticlunr_diagnostics.proofs.nearest.nearest.Goals.{then-edits-too_many, else-edits-too_many}

pub loop-name-preserved : goal.loop-name-preserved
loop-name-preserved c =
    let asked = string_bytes c.in_ok-asked.asked in
    let far : Bor (List ℕ) → ℕ = λ name. edits asked (small name.now) in
    let names = c.args.names.now in
    let i = c.loop-name.name-index in
    let none : Bor (List ℕ) = record { ref_ptr = (0, 0); now = [] } in
    let counted : c.in_ok-edits.edits ≡ far (get_or names i none) = c.in_ok-edits.ensures
    ∙ ap (λ t. edits t (small (get_or names i none).now)) c.as_str.ensures.value in
    elim c.if-edits-too_many.branch [
      | then-edits-too_many w ↦
          next_nearer far (few asked) names i none c.loop-name.best _ c.loop-name.too_many _ _ c.loop-name-test.true
          counted c.loop-name.invariant.0 c.loop-name.invariant.1 w.if-edits-too_many.true w.best-is w.too_many-is
      | else-edits-too_many w ↦
          next_no_nearer far (few asked) names i none c.loop-name.best _ c.loop-name.too_many _ _ c.loop-name-test.true
          counted c.loop-name.invariant.0 c.loop-name.invariant.1 w.if-edits-too_many.false w.best-is
          w.too_many-is
    ]

pub returns : goal.returns
returns c =
    let asked = string_bytes c.in_ok-asked.asked in
    let names = c.args.names.now in
    let whole : take c.loop-name.name-index names ≡ names =
    ap (λ n. take n names) (omega (arith, c.loop-name-test.false, c.loop-name.auto.name-index-end))
    ∙ take-length names in
    let is : asked ≡ small c.args.asked.now = c.in_ok-asked.ensures.ok in
    let as_few : few asked ≡ few c.args.asked.now = ap few is
    ∙ ap (λ n. max (n / 3) 1) (length-map c.args.asked.now to_ascii_lowercase) in
    subst (λ t. IsNearest (λ name. edits t (small name.now)) (few c.args.asked.now) names c.loop-name.best) is
    (subst (λ most. IsNearest (λ name. edits asked (small name.now)) most names c.loop-name.best) as_few
    (subst (λ l. IsNearest (λ name. edits asked (small name.now)) (few asked) l c.loop-name.best) whole
    c.loop-name.invariant.0))

pub loop-name-init : goal.loop-name-init
loop-name-init c = search rules
