use Rattle.std.proofs.Common.{◌∙◌, bytes_eq, rules, tests}
use Rattle.std.proofs.lemmas.Iterator.{YieldsList-from_slice}
use Rattle.std.proofs.lemmas.Iterator.Search.{any_from_yields_List}
use Rattle.elasticlunr_job.proofs.KeptWords.{any-borrowed}
use Rattle.elasticlunr_job.proofs.kept.has_name.Goals as goal

pub returns : goal.returns
returns c =
    let name = c.args.name.now in
    any_from_yields_List (λ other. bytes_eq other.now name) _ _ c.any.result c.any.ensures.ran
    (YieldsList-from_slice c.args.names.now cc) (λ x b q k. search (rules, tests))
    ∙ any-borrowed (λ other. bytes_eq other name) c.args.names.now
