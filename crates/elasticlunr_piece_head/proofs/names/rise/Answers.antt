use Rattle.std.proofs.Common.{◌≡◌, ◌⊎◌, inl, inr, true≢false, Less, Equal, Greater, refl, sym, ◌∙◌}
use Rattle.std.specs.declared.cmp.Ordering.{Ordering}
use Rattle.elasticlunr_piece_head.proofs.Splitting.{all_rise, no_rise, rises_more}
use Rattle.elasticlunr_piece_head.proofs.names.rise.Goals as goal

not_less : {o : Ordering} → o ≡ Less → (o ≡ Equal) ⊎ (o ≡ Greater) → ⊥
not_less less (inl e) = let both : Less ≡ Equal = sym less ∙ e in cc (both)
not_less less (inr e) = let both : Less ≡ Greater = sym less ∙ e in cc (both)

pub loop-place-preserved : goal.loop-place-preserved
loop-place-preserved c = rises_more c.args.texts.now c.loop-place.place c.index-texts-place.result
    c.index-texts-place-in-loop-place.result c.loop-place.auto.place c.loop-place-test.true c.index-texts-place.is
    c.index-texts-place-in-loop-place.is (sym c.cmp.ensures ∙ c.in-Less.is) c.loop-place.invariant

pub returns-in-Equal : goal.returns-in-Equal
returns-in-Equal c = (
  λ e. absurd (true≢false (sym e)),
  λ sorted. absurd (no_rise c.args.texts.now c.loop-place.place c.index-texts-place.result
      c.index-texts-place-in-loop-place.result c.loop-place.auto.place c.loop-place-test.true c.index-texts-place.is
      c.index-texts-place-in-loop-place.is (λ less. not_less (c.cmp.ensures ∙ less) c.in-Equal.is) sorted),
)

pub returns : goal.returns
returns c = (
  λ _. all_rise c.args.texts.now c.loop-place.place c.loop-place-test.false c.loop-place.invariant,
  λ _. refl,
)
