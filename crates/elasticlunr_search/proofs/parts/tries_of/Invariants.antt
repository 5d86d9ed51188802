use Rattle.std.proofs.Common.{take}
use Rattle.std.specs.List.{AllZip}
use Rattle.serde_json.specs.View.{view}
use Rattle.elasticlunr_text.specs.Text.{bytes_of}
use Rattle.elasticlunr_search.specs.Fields.{HasWholeTrie}
use Rattle.elasticlunr_search.proofs.parts.tries_of.Given as goal

-- the names so far have these tries
abbrev pub invariant-loop-name : goal.invariant-loop-name
invariant-loop-name l = AllZip (HasWholeTrie (view l.index)) (bytes_of (take l.name-index l.names)) l.tries.items
