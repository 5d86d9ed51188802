use Rattle.std.proofs.Common.{ap, bytes_eq, ◌∙◌}
use Rattle.std.specs.List.{list_any}
use Rattle.elasticlunr_job_format.proofs.KeyTests.{any_told}
use Rattle.elasticlunr_job_format.proofs.key.is_job_key.Goals as goal

pub returns : goal.returns
returns c = c.contains.ensures.value ∙ (any_told c.args.key.now c.job_keys.result
    ∙ ap (list_any (bytes_eq c.args.key.now)) c.job_keys.ensures)
