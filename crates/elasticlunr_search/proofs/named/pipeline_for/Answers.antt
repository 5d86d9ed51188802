use Rattle.std.proofs.Common.{◌≡◌, ◌++◌, [], ◌∷◌, ◌∙◌, None, Some, ap, false, map, refl, subst, sym, true}
use Rattle.std.proofs.lemmas.List.{append-nil, map-append}
use Rattle.elasticlunr_text.specs.Stages.{LeavesBy, stage_name}
use Rattle.elasticlunr_text.specs.Text.{bytes_of}
use Rattle.elasticlunr_text.specs.declared.pipeline.stage.Stage.TheVariants.{TableStemmer}
use Rattle.elasticlunr_lang.specs.Known.{language_leaves, language_stages}
use Rattle.elasticlunr_stem_stage.specs.Stemmed.{StemmedLeaves, stemmer_stages, with_table}
use Rattle.elasticlunr_stem_stage.proofs.Stemming.{stems_after}
use Rattle.elasticlunr_search.specs.Fields.{HasStages}
use Rattle.elasticlunr_search.proofs.Stemming.{no_own_stages}
use Rattle.elasticlunr_search.proofs.named.pipeline_for.Goals as goal

pub returns-then-branch : goal.returns-then-branch
returns-then-branch g c =
    let same : bytes_of c.deref.result.now ≡ language_stages c.args.language =
    ap bytes_of c.deref.ensures.value ∙ c.in_ok-stages.ensures ∙ c.in_ok-pipeline.ensures.names in
    record {
      stems = false;
      names = c.in_ok-pipeline.ensures.names;
      stages = c.in_ok-pipeline.ensures.leaves;
      own = λ v is. (
        λ has. refl,
        λ own. subst (HasStages v) same ((c.in_ok-has_stages.ensures v is).0 c.if-branch.true),
      );
    }

pub returns-in_default : goal.returns-in_default
returns-in_default g c =
    let language = c.args.language in
    let same : bytes_of c.deref.result.now ≡ language_stages language =
    ap bytes_of c.deref.ensures.value ∙ c.in_ok-stages.ensures ∙ c.in_ok-pipeline.ensures.names in
    let table : with_table language ≡ None = sym c.with_table.ensures ∙ c.in_default.is in
    record {
      stems = true;
      names = c.in_ok-pipeline.ensures.names ∙ sym (append-nil (language_stages language))
          ∙ ap (λ t. language_stages language ++ stemmer_stages t) (sym table);
      stages = subst (λ t. LeavesBy (λ b. (goal.PipelineFn-dyn g b).leaves b.1) c.in_ok-pipeline.pipeline
          (StemmedLeaves t (language_leaves language))) (sym table) c.in_ok-pipeline.ensures.leaves;
      own = λ v is. no_own_stages v language _ _ same (c.in_ok-has_stages.ensures v is) c.if-branch.false;
    }

pub returns : goal.returns
returns g c =
    let language = c.args.language in
    let same : bytes_of c.deref.result.now ≡ language_stages language =
    ap bytes_of c.deref.ensures.value ∙ c.in_ok-stages.ensures ∙ c.in_ok-pipeline.ensures.names in
    let table : with_table language ≡ Some c.in-Some.table = sym c.with_table.ensures ∙ c.in-Some.is in
    let own = c.in_ok-pipeline.pipeline.queue.items in
    let stemmer = c.in_ok-stemmer.stemmer in
    let all = c.push.new.self.items in
    let name = stage_name (λ step. (goal.PipelineFn-dyn g (step.vtable, step.value)).name_text step.value) in
    let named : map name all ≡ map name own ++ name (TableStemmer stemmer) ∷ [] =
    ap (map name) c.in_ok-push.ensures.items ∙ map-append name own (TableStemmer stemmer ∷ []) in
    record {
      stems = true;
      names = named
          ∙ (λ j. c.in_ok-pipeline.ensures.names j ++ c.in_ok-stemmer.ensures.name j ∷ [])
          ∙ ap (λ t. language_stages language ++ stemmer_stages t) (sym table);
      stages = subst (λ t. LeavesBy (λ b. (goal.PipelineFn-dyn g b).leaves b.1) (record { queue = c.push.new.self })
          (StemmedLeaves t (language_leaves language))) (sym table)
          (stems_after stemmer c.in-Some.table c.in_ok-stemmer.ensures.stems
          (λ step. (goal.PipelineFn-dyn g (step.vtable, step.value)).leaves step.value) own all
          c.in_ok-push.ensures.items (language_leaves language) c.in_ok-pipeline.ensures.leaves);
      own = λ v is. no_own_stages v language _ _ same (c.in_ok-has_stages.ensures v is) c.if-branch.false;
    }
