use Rattle.std.proofs.Common.{◌∙◌, subst, sym}
use Rattle.std.proofs.lemmas.Iterator.Adapters.{YieldsList-from_vec}
use Rattle.std.proofs.lemmas.Iterator.Consumers.{YieldsList-end}
use Rattle.std.proofs.lemmas.List.{map-id}
use Rattle.elasticlunr_text.specs.Stages.{MayRun}
use Rattle.elasticlunr_text.specs.Text.{text_of, texts_of}
use Rattle.elasticlunr_text.proofs.StageLemmas.{MayRun-on, MayRun-strings}
use Rattle.elasticlunr_text.proofs.pipeline.run.Pipeline.run.Goals as goal

pub loop-token-preserved : goal.loop-token-preserved
loop-token-preserved g c =
    let on = c.in_ok-run_on.ensures.ok in
    MayRun-strings _ c.args.self.now.queue.items c.loop-token.yielded c.in-Some.token _
    (MayRun-on _ c.args.self.now.queue.items (texts_of c.loop-token.yielded) _ _ (text_of c.in-Some.token) on.0
    c.loop-token.invariant on.1 on.2)

pub returns : goal.returns
returns g c =
    let h = c.into_iter-token-iterator.ensures.into_iter_gives in
    let t = YieldsList-end (YieldsList-from_vec {s = c.into_iter-token-iterator.result} c.args.tokens.items h.0
    (h.1 ∙ c.args.tokens.ok.0)) c.loop-token.yielded c.loop-token.token-iterator c.loop-token.yielded_by
    c.next.result c.next.new.self c.in-None.is c.next.ensures.steps in
    subst (λ tokens. MayRun (λ b. (goal.PipelineFn-dyn g (b.vtable, b.value)).leaves b.value)
    c.args.self.now.queue.items (texts_of tokens) (texts_of c.loop-token.kept.items))
    (sym (map-id c.loop-token.yielded) ∙ t.0) c.loop-token.invariant
