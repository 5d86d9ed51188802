use Rattle.std.proofs.Common.{◌≡◌, ℕ, subst}
use Rattle.elasticlunr_text.specs.Classes.{in_scripts}
use Rattle.elasticlunr_text.specs.StopWords.{HasWords}
use Rattle.elasticlunr_text.specs.Trimmers.{keeps}
use Rattle.elasticlunr_lang.proofs.StageLemmas.{class-leaves}
use Rattle.elasticlunr_stem_languages.specs.Hungarian.{hungarian_scripts, hungarian_stop_words}
use Rattle.elasticlunr_stem_languages.proofs.hungarian_language.HungarianLanguage.make_pipeline.Goals as goal

pub returns-clause-leaves : goal.returns-clause-leaves
returns-clause-leaves g c =
    let trimmer = c.in_ok-trimmer.trimmer in
    let filter = c.in_ok-filter.filter in
    class-leaves _ _ trimmer filter (in_scripts hungarian_scripts) hungarian_stop_words c.in_ok-pipeline.ensures.items
    (subst (λ scripts. (k : ℕ) → keeps trimmer k ≡ in_scripts scripts k) c.scripts.ensures c.in_ok-trimmer.ensures.class)
    (subst (HasWords filter) c.stop_words.ensures c.in_ok-filter.ensures.words)
