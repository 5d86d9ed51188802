use Rattle.std.proofs.Common.{◌∙◌}
use Rattle.std.specs.FinMap.{insert}
use Rattle.elasticlunr_store_maps.specs.Contents.{length_map}
use Rattle.elasticlunr_store_maps.proofs.put.one_length.Goals as goal

pub returns : goal.returns
returns c = c.in_ok-put_length.ensures.ok
    ∙ (λ i. insert (length_map (c.new-lengths.ensures.empty i)) c.args.field.now c.args.length)
