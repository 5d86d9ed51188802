use Rattle.std.proofs.Common.{decimal, ◌++◌, ◌∷◌, [], refl, ap, ◌∙◌}
use Rattle.json.specs.Token.{number}
use Rattle.elasticlunr_search.specs.SameText.{taken}
use Rattle.elasticlunr_search.proofs.SameText.{still_split, took, took_small}
use Rattle.elasticlunr_search.proofs.same_text.SameTextTokens.number.Goals as goal

pub invariant_of-self : goal.invariant_of-self
invariant_of-self c =
    let text = c.self.inside.text.now in
    let found = c.is_number.ensures c.if-is_number.true in (
      still_split text _ _ c.self.invariant.0 c.next.result c.next.ensures.value,
      λ same. took_small text _ _ c.self.invariant.0 c.next.result c.next.ensures.value (number (decimal c.args.n))
          found (c.args.n, c.ranges.n.fits, refl) (c.self.invariant.1 same),
    )

pub returns-then-is_number : goal.returns-then-is_number
returns-then-is_number c =
    took c.self.inside.text.now _ _ c.self.invariant.0 c.next.result c.next.ensures.value (number (decimal c.args.n))
    (c.is_number.ensures c.if-is_number.true)
    ∙ ap (λ s. taken s.0 s.1 ++ number (decimal c.args.n) ∷ []) c.self.view_is

pub invariant_of-self-2 : goal.invariant_of-self-2
invariant_of-self-2 c = (
  still_split c.self.inside.text.now _ _ c.self.invariant.0 c.next.result c.next.ensures.value,
  λ same. absurd (cc),
)
