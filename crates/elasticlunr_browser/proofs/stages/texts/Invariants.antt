use Rattle.std.proofs.Common.{◌≡◌, map, take}
use Rattle.serde_json.specs.Data.{string}
use Rattle.serde_json.specs.View.{view}
use Rattle.elasticlunr_text.specs.Text.{bytes_of}
use Rattle.elasticlunr_browser.proofs.stages.texts.Given as goal

-- the items so far are these texts
abbrev pub invariant-loop-word : goal.invariant-loop-word
invariant-loop-word l = map view l.items.items ≡ map string (bytes_of (take l.word-index l.words))
