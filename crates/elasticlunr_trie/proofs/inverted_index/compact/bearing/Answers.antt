use Rattle.std.proofs.Common.{◌+◌, length, sym, ap, subst, ◌∙◌}
use Rattle.std.proofs.lemmas.List.{length-append}
use Rattle.elasticlunr_trie.specs.Compact.{MarksBearing}
use Rattle.elasticlunr_trie.proofs.Marks.{whole_marks}
use Rattle.elasticlunr_trie.proofs.inverted_index.compact.bearing.Goals as goal

pub loop-preserved : goal.loop-preserved
loop-preserved c = ap length c.in_ok-push.ensures.items ∙ length-append c.loop.marks.items _
    ∙ ap (λ n. n + 1) c.loop.invariant

pub returns-clause-count : goal.returns-clause-count
returns-clause-count c = ap length (whole_marks c.loop.marks.len c.loop.index _ c.loop.marks.items
    c.deref_mut.result.now c.mark.new.marks _ c.deref_mut.ensures.len c.deref_mut.ensures.value c.loop.invariant
    c.loop-test.false c.loop.auto.index-end c.mark.ensures.count) ∙ c.mark.ensures.count

pub returns-clause-each : goal.returns-clause-each
returns-clause-each c = subst (MarksBearing c.args.nodes.now)
    (sym (whole_marks c.loop.marks.len c.loop.index _ c.loop.marks.items c.deref_mut.result.now c.mark.new.marks _
    c.deref_mut.ensures.len c.deref_mut.ensures.value c.loop.invariant c.loop-test.false c.loop.auto.index-end
    c.mark.ensures.count)) c.mark.ensures.each
