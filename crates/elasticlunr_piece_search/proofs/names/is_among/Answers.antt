use Rattle.std.proofs.Common.{bytes_eq, sym, ap, ◌∙◌}
use Rattle.elasticlunr_piece_search.proofs.FieldNames.{is_here, next_name, not_here}
use Rattle.elasticlunr_piece_search.proofs.names.is_among.Goals as goal

pub returns-then-eq : goal.returns-then-eq
returns-then-eq c = sym (c.loop-other.invariant ∙ next_name c.args.name.now c.args.names.now c.loop-other.other-index
    c.other-item.result c.loop-other-test.true c.other-item.is
    ∙ is_here _ _ (ap (λ n. bytes_eq n c.args.name.now) (sym c.as_str.ensures.value) ∙ sym c.eq.ensures ∙ c.if-eq.true))

pub loop-other-preserved : goal.loop-other-preserved
loop-other-preserved c = c.loop-other.invariant ∙ next_name c.args.name.now c.args.names.now c.loop-other.other-index
    c.other-item.result c.loop-other-test.true c.other-item.is
    ∙ not_here _ _ (ap (λ n. bytes_eq n c.args.name.now) (sym c.as_str.ensures.value) ∙ sym c.eq.ensures ∙ c.if-eq.false)
