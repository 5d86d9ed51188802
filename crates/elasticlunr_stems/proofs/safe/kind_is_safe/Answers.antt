use Rattle.std.proofs.Common.{rules}
use Rattle.elasticlunr_stems.proofs.safe.kind_is_safe.Goals as goal

pub returns-in-Cut : goal.returns-in-Cut
returns-in-Cut c = search rules

pub returns-then-shortens_at : goal.returns-then-shortens_at
returns-then-shortens_at c = search rules

pub returns-else-shortens_at : goal.returns-else-shortens_at
returns-else-shortens_at c = search rules

pub returns-in-Either : goal.returns-in-Either
returns-in-Either c = search rules

pub returns-in-Either-2 : goal.returns-in-Either-2
returns-in-Either-2 c = search rules

pub returns-in-Add : goal.returns-in-Add
returns-in-Add c = search rules

pub returns-in-Add-2 : goal.returns-in-Add-2
returns-in-Add-2 c = search rules

pub returns-in-Add-3 : goal.returns-in-Add-3
returns-in-Add-3 c = search rules

pub returns-in-Add-4 : goal.returns-in-Add-4
returns-in-Add-4 c = search rules

pub returns-in-Add-5 : goal.returns-in-Add-5
returns-in-Add-5 c = search rules

pub returns-in-Fails : goal.returns-in-Fails
returns-in-Fails c = search rules
