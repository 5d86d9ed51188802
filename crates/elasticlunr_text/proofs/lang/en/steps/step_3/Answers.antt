use Rattle.std.proofs.Common.{refl, subst, chars}
use Rattle.elasticlunr_text.specs.Suffixes.{step_3_endings}
use Rattle.elasticlunr_text.specs.Stems.{LastIs, Replaces}
use Rattle.elasticlunr_text.proofs.StepLemmas.{tries-first}
use Rattle.elasticlunr_text.proofs.TableLemmas.{tries-replaces}
use Rattle.elasticlunr_text.proofs.lang.en.steps.step_3.Goals as goal

pub returns : goal.returns
returns c =
    let last = subst (λ bs. LastIs c.last_of.result (chars bs)) c.deref.ensures c.last_of.ensures in
    tries-first c.replace_ending.result (Replaces step_3_endings) _ _
    (tries-replaces step_3_endings refl c.last_of.result _ last c.replace_ending.result _
    (rw c.step_3_endings.ensures.endings at c.replace_ending.ensures))
