use Rattle.std.proofs.Common.{rules}
use Rattle.elasticlunr_json_place.proofs.member.is_same.Goals as goal

pub returns : goal.returns
returns c = search rules
