use Rattle.std.proofs.Common.{◌≡◌, Bool, true, false, not, if◌then◌else◌, refl}
use Rattle.elasticlunr_input.proofs.index.options_of.Goals as goal

not_if : (b : Bool) → not b ≡ (if b then false else true)
not_if true = refl
not_if false = refl

pub returns : goal.returns
returns c named = rw (
  c.in_ok-fields_of.ensures,
  c.in_ok-rules_of.ensures,
  c.text_or.ensures,
  c.text_or-2.ensures,
  named,
  ← not_if c.args.settings.now.drops_texts,
) refl
