use Rattle.std.proofs.Common.{inl, inr, refl, sym, ◌∙◌, true≢false}
use Rattle.elasticlunr_search.proofs.Deeper.{not_json}
use Rattle.elasticlunr_search.proofs.parts.unread.Goals as goal

pub returns-in-Ok-false : goal.returns-in-Ok-false
returns-in-Ok-false c = inr (inl (
  refl,
  not_json c.args.text.now c.requires (λ deep. true≢false
      (sym (c.in-Ok-false.ensures.1 deep) ∙ c.in-Ok-false.field-0-test)),
))
