use Rattle.std.proofs.Common.{◌≡◌, true≢false, subst, ◌∙◌}
use Rattle.std.specs.Prelude.{IsSomeAnd}
use Rattle.elasticlunr.proofs.index.Index.parts.Goals as goal

pub returns-in-Some-clause-failed : goal.returns-in-Some-clause-failed
returns-in-Some-clause-failed g c = (λ same. absurd (cc), λ none. absurd (true≢false (rw c.in-Some.is at none)))

pub returns-in-Some-clause-parts : goal.returns-in-Some-clause-parts
returns-in-Some-clause-parts g c tables kept has =
    let own : (c.in-Some.contents.tries.items ≡ tables) × (c.in-Some.contents.store ≡ kept) =
    subst (λ o. IsSomeAnd o (λ contents. (contents.tries.items ≡ tables) × (contents.store ≡ kept))) c.in-Some.is has in
    (c.parts.ensures.tries ∙ own.0, c.parts.ensures.store ∙ own.1)
