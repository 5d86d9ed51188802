use Rattle.std.proofs.Common.{rules, tests, string_bytes}
use Rattle.std.proofs.lemmas.Iterator.Consumers.{YieldsList-from_rest}
use Rattle.std.proofs.lemmas.Iterator.Search.{all_from_yields_List}
use Rattle.elasticlunr_job_format.specs.Keys.{is_job_key}
use Rattle.elasticlunr_job_format.proofs.job.has_only_job_keys.Goals as goal

pub returns : goal.returns
returns c = all_from_yields_List (λ key. is_job_key (string_bytes key)) _ _ _ c.all.ensures.ran
    (YieldsList-from_rest _ c.keys.ensures.rest) (λ x b q k. search (rules, tests))
