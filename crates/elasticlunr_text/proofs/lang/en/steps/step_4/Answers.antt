use Rattle.std.proofs.Common.{inl, refl, subst, chars}
use Rattle.elasticlunr_text.specs.Suffixes.{step_4_endings}
use Rattle.elasticlunr_text.specs.Stems.{DropsEnding, DropsIon, FirstOf, LastIs, Stays}
use Rattle.elasticlunr_text.proofs.StepLemmas.{then-first, tries-first, tries-true}
use Rattle.elasticlunr_text.proofs.TableLemmas.{tries-drops}
use Rattle.elasticlunr_text.proofs.lang.en.steps.step_4.Goals as goal

pub returns-then-drop_ending : goal.returns-then-drop_ending
returns-then-drop_ending c =
    let last = subst (λ bs. LastIs c.last_of.result (chars bs)) c.deref.ensures c.last_of.ensures in
    let tried = tries-drops step_4_endings refl c.last_of.result _ last c.drop_ending.result _
    (rw c.step_4_endings.ensures.endings at c.drop_ending.ensures) in
    inl (tries-true c.drop_ending.result (DropsEnding step_4_endings) _ _ c.if-drop_ending.true tried)

pub returns-else-drop_ending : goal.returns-else-drop_ending
returns-else-drop_ending c =
    let last = subst (λ bs. LastIs c.last_of.result (chars bs)) c.deref.ensures c.last_of.ensures in
    let tried = tries-drops step_4_endings refl c.last_of.result _ last c.drop_ending.result _
    (rw c.step_4_endings.ensures.endings at c.drop_ending.ensures) in
    then-first (DropsEnding step_4_endings) (FirstOf DropsIon Stays) _ _ _ (rw c.if-drop_ending.false at tried)
    (tries-first c.drop_ion.result DropsIon _ _ c.drop_ion.ensures)
