use Rattle.std.proofs.Common.{rules}
use Rattle.elasticlunr_c_calls.proofs.documents.source_of.Goals as goal

pub returns-in-FromText : goal.returns-in-FromText
returns-in-FromText c = search rules

pub returns-in-IntoPipeline : goal.returns-in-IntoPipeline
returns-in-IntoPipeline c = search rules

pub returns-in-AsGiven : goal.returns-in-AsGiven
returns-in-AsGiven c = search rules
