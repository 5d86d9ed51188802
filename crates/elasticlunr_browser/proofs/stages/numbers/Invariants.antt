use Rattle.std.proofs.Common.{◌≡◌, map, take}
use Rattle.serde_json.specs.Data.{number, unsigned}
use Rattle.serde_json.specs.View.{view}
use Rattle.elasticlunr_browser.proofs.stages.numbers.Given as goal

-- the items so far are these numbers
abbrev pub invariant-loop-mark : goal.invariant-loop-mark
invariant-loop-mark l = map view l.items.items ≡ map (λ n. number (unsigned n)) (take l.mark-index l.marks)
