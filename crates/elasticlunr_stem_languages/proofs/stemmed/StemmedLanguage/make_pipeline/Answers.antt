use Rattle.std.proofs.Common.{◌≡◌, ◌++◌, [], ◌∷◌, ◌∙◌, ap, map}
use Rattle.std.proofs.lemmas.List.{map-append}
use Rattle.elasticlunr_text.specs.Stages.{stage_name}
use Rattle.elasticlunr_text.specs.declared.pipeline.stage.Stage.TheVariants.{TableStemmer}
use Rattle.elasticlunr_stem_stage.proofs.Stemming.{stems_after}
use Rattle.elasticlunr_stem_languages.proofs.stemmed.StemmedLanguage.make_pipeline.Goals as goal

pub returns-clause-names : goal.returns-clause-names
returns-clause-names g c =
    let own = c.in_ok-pipeline.pipeline.queue.items in
    let stemmer = c.in_ok-stemmer.stemmer in
    let name = stage_name (λ step. (goal.PipelineFn-dyn g (step.vtable, step.value)).name_text step.value) in
    let named : map name c.push.new.self.items ≡ map name own ++ name (TableStemmer stemmer) ∷ [] =
    ap (map name) c.in_ok-push.ensures.items ∙ map-append name own (TableStemmer stemmer ∷ []) in
    named ∙ (λ j. c.in_ok-pipeline.ensures.names j ++ c.in_ok-stemmer.ensures.name j ∷ [])

pub returns-clause-leaves : goal.returns-clause-leaves
returns-clause-leaves g c = stems_after c.in_ok-stemmer.stemmer c.args.self.now.table c.in_ok-stemmer.ensures.stems
    (λ step. (goal.PipelineFn-dyn g (step.vtable, step.value)).leaves step.value) c.in_ok-pipeline.pipeline.queue.items
    c.push.new.self.items c.in_ok-push.ensures.items _ c.in_ok-pipeline.ensures.leaves
