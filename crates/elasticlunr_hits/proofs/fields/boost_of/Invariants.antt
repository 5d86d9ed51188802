use Rattle.std.proofs.Common.{◌≡◌, take}
use Rattle.elasticlunr_hits.specs.Asked.{last_boost}
use Rattle.elasticlunr_hits.proofs.fields.boost_of.Given as goal

-- the last boost so far
abbrev pub invariant-loop-field : goal.invariant-loop-field
invariant-loop-field l = l.last ≡ last_boost (take l.field-index l.boosts) l.name
