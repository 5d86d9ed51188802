use Rattle.std.proofs.Common.{map, take}
use Rattle.serde_json.specs.View.{view}
use Rattle.elasticlunr_browser.specs.Kinds.{HoldsLanguages}
use Rattle.elasticlunr_browser.proofs.script.all_stages.Given as goal

-- the values so far are those of the languages so far
abbrev pub invariant-loop-language : goal.invariant-loop-language
invariant-loop-language l = HoldsLanguages (take l.language-index l.chosen) (map view l.stages.items)
