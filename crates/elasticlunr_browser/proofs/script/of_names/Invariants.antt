use Rattle.std.proofs.Common.{map, take}
use Rattle.std.specs.List.{AllZip}
use Rattle.elasticlunr_browser.specs.Named.{IsNameOf}
use Rattle.elasticlunr_browser.proofs.script.of_names.Given as goal

-- the languages so far are those of the names so far
abbrev pub invariant-loop-name : goal.invariant-loop-name
invariant-loop-name l = AllZip IsNameOf (map (λ name. name.now) (take l.name-index l.names)) l.chosen.items
