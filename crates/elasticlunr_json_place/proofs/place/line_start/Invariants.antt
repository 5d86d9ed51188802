use Rattle.std.proofs.Common.{◌≡◌, ◌<◌, ℕ}
use Rattle.elasticlunr_json_place.specs.Places.{line_at}
use Rattle.elasticlunr_json_place.proofs.place.line_start.Given as goal

-- the line so far, and no offset before is in the one that is asked for
abbrev pub invariant-loop-at : goal.invariant-loop-at
invariant-loop-at l = record {
  here : l.here ≡ line_at l.fn.text l.at;
  before : (k : ℕ) → k < l.at
      → line_at l.fn.text k < l.fn.line;
}
