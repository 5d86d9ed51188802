use Rattle.std.proofs.Common.{◌≡◌, IfSome, is_some, take}
use Rattle.std.specs.FinMap.{get}
use Rattle.elasticlunr_text.specs.Text.{Bytes}
use Rattle.elasticlunr_store.specs.Options.{field_map}
use Rattle.elasticlunr.specs.Fields.{borrowed, has_name}
use Rattle.elasticlunr_hits.specs.Asked.{HasBoost, last_boost}
use Rattle.elasticlunr_hits.proofs.options.field_options.Given as goal

-- exactly the fields so far have options, each its boost
abbrev pub invariant-loop-name : goal.invariant-loop-name
invariant-loop-name l = (name : Bytes) → (is_some (get (field_map l.fields.entries) name)
    ≡ has_name name (borrowed (take l.name-index l.names)))
    × IfSome (get (field_map l.fields.entries) name) (HasBoost (last_boost l.boosts name))
