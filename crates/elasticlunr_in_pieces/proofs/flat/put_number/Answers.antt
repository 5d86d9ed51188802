use Rattle.std.proofs.Common.{◌++◌, ap, ◌∙◌}
use Rattle.elasticlunr_error.specs.Text.{Bytes}
use Rattle.elasticlunr_flat.specs.Flat.{flat_number}
use Rattle.elasticlunr_in_pieces.proofs.flat.put_number.Goals as goal

pub returns-clause-ok : goal.returns-clause-ok
unfolding flat_number
returns-clause-ok c = c.in_ok-extend_from_slice.ensures.items
    ∙ ap (λ (bytes : Bytes). c.args.out.now.items ++ bytes) c.to_le_bytes.ensures
