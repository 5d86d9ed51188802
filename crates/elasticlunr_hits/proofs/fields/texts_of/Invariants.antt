use Rattle.std.proofs.Common.{◌≡◌, take}
use Rattle.elasticlunr_text.specs.Text.{bytes_of}
use Rattle.elasticlunr.specs.Fields.{borrowed}
use Rattle.elasticlunr_hits.proofs.fields.texts_of.Given as goal

-- the texts so far are those of the first strings
abbrev pub invariant-loop-name : goal.invariant-loop-name
invariant-loop-name l = borrowed l.texts.items ≡ bytes_of (take l.name-index l.names)
