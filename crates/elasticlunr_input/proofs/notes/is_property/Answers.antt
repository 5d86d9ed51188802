use Rattle.std.proofs.Common.{ap, bytes_eq, ◌∙◌}
use Rattle.std.specs.List.{list_any}
use Rattle.elasticlunr_job_format.proofs.KeyTests.{any_told}
use Rattle.elasticlunr_input.proofs.notes.is_property.Goals as goal

pub returns : goal.returns
returns c = c.contains.ensures.value ∙ (any_told c.args.name.now c.property_names.result
    ∙ ap (list_any (bytes_eq c.args.name.now)) c.property_names.ensures)
