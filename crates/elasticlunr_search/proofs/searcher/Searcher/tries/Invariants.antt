use Rattle.std.proofs.Common.{take}
use Rattle.elasticlunr.specs.Fields.{borrowed}
use Rattle.elasticlunr_search.specs.Standing.{AreTriesOf, HasFieldsOf}
use Rattle.elasticlunr_search.specs.Tries.{tables_of}
use Rattle.elasticlunr_search.proofs.searcher.Searcher.tries.Given as goal

-- the fields so far are there, and these are their tries
abbrev pub invariant-loop-field : goal.invariant-loop-field
invariant-loop-field g l = HasFieldsOf l.self (borrowed (take l.field-index l.fields))
    × AreTriesOf l.self (borrowed (take l.field-index l.fields)) (tables_of l.tries.items)
