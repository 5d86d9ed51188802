use Rattle.std.proofs.Common.{[], ◌∷◌, ◌++◌, ◌∙◌, ap, append_assoc, append-nil, sym}
use Rattle.std.specs.Borrow.{Bor}
use Rattle.elasticlunr_error.specs.Text.{Bytes}
use Rattle.elasticlunr_ranking.proofs.entries.entries_of.Goals as goal

pub loop-reference-preserved : goal.loop-reference-preserved
loop-reference-preserved g c =
    let done = c.loop-reference.invariant in
    let entry : Bor Bytes × g.row.X.Denot = (c.in-Some.reference.now, c.in-Some.x.now) in (
      done.0 ++ entry ∷ [],
      append_assoc done.0 _ c.next.new.self ∙ ap (λ es. done.0 ++ es) (sym c.in-Some.ensures.steps) ∙ done.1,
      c.in_ok-push.ensures.items ∙ ap (λ l. l ++ entry ∷ []) done.2,
    )

pub returns-clause-same : goal.returns-clause-same
returns-clause-same g c =
    let done = c.loop-reference.invariant in
    done.2 ∙ sym (append-nil done.0) ∙ ap (λ es. done.0 ++ es) (sym c.in-None.ensures.steps.0) ∙ done.1
