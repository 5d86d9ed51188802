use Rattle.std.proofs.Common.{◌≡◌, ◌∙◌, sym, ap, length}
use Rattle.elasticlunr_publish.specs.Names.{numbered}
use Rattle.elasticlunr_publish.proofs.Numbered.{only_digits, some_bytes}
use Rattle.elasticlunr_publish.proofs.names.is_temporary.Goals as goal

pub returns-then-not-is_empty : goal.returns-then-not-is_empty
returns-then-not-is_empty c =
    let digits = c.in-Some.digits.now in
    let is : c.args.name.now ≡ numbered c.args.base.now digits = sym c.as_bytes-2.ensures.value
    ∙ (c.in-Some.ensures.some ∙ ap (λ b. numbered b digits) c.as_bytes.ensures.value) in (
      (λ good. record { digits = digits; spelt = is; some = some_bytes c.is_empty.result (length digits) c.if-not-is_empty.true c.is_empty.ensures; decimal = sym c.are_digits.ensures ∙ good }),
      (λ t. c.are_digits.ensures ∙ only_digits c.args.base.now c.args.name.now digits is t),
    )
