use Rattle.std.proofs.Common.{rules}
use Rattle.elasticlunr_store.proofs.config.SearchOptions.new.Goals as goal

pub returns : goal.returns
returns c = search rules
