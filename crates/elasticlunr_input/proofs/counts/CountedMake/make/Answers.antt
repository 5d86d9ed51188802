use Rattle.std.proofs.Common.{ap, ◌∙◌}
use Rattle.elasticlunr.specs.Standing.{Holds}
use Rattle.elasticlunr_input.specs.Counts.{without_token}
use Rattle.elasticlunr_input.proofs.Counting.{held}
use Rattle.elasticlunr_input.proofs.counts.CountedMake.make.Goals as goal

pub returns-clause-ok : goal.returns-clause-ok
returns-clause-ok g c commands stands =
    let parts = c.in_ok-parts.field-0 in
    let tables = parts.tries.now in
    let kept = parts.store.now in (
      c.in_ok-made.ensures.ok commands stands,
      (
        tables,
        kept,
        held c.args.index.now.contents (λ v. v.tries.items) (λ v. v.store) tables kept (Holds _ commands)
            c.in_ok-parts.ensures.parts stands,
        c.in_ok-counts.ensures.counts,
        c.in_ok-counts.ensures.without_token ∙ ap (λ fields. without_token fields kept) c.in_ok-parts.ensures.fields,
      ),
    )
