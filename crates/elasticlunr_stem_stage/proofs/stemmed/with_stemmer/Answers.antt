use Rattle.elasticlunr_lang.specs.Known.{language_leaves}
use Rattle.elasticlunr_stem_stage.proofs.Stemming.{stems_after}
use Rattle.elasticlunr_stem_stage.proofs.stemmed.with_stemmer.Goals as goal

pub returns-clause-leaves : goal.returns-clause-leaves
returns-clause-leaves g c = λ language same. stems_after c.in_ok-stemmer.stemmer c.args.table
    c.in_ok-stemmer.ensures.stems (λ step. (goal.PipelineFn-dyn g (step.vtable, step.value)).leaves step.value)
    c.args.pipeline.queue.items c.push.new.self.items c.in_ok-push.ensures.items (language_leaves language) same
