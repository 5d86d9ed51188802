use Rattle.std.proofs.Common.{length}
use Rattle.elasticlunr_json_place.proofs.seek.seek_key.Given as goal

abbrev pub decreases-loop-name : goal.decreases-loop-name
decreases-loop-name l = length l.reader
