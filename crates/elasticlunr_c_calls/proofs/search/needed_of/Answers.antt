use Rattle.std.proofs.Common.{rules}
use Rattle.elasticlunr_c_calls.proofs.search.needed_of.Goals as goal

pub returns-in-One : goal.returns-in-One
returns-in-One c = search rules

pub returns-in-EachInOneField : goal.returns-in-EachInOneField
returns-in-EachInOneField c = search rules

pub returns-in-Each : goal.returns-in-Each
returns-in-Each c = search rules
