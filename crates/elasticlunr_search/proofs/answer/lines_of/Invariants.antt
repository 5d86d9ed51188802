use Rattle.std.proofs.Common.{◌≡◌, string_bytes, take}
use Rattle.elasticlunr_text.specs.Text.{bytes_of}
use Rattle.elasticlunr_search.specs.Lines.{lines}
use Rattle.elasticlunr_search.proofs.answer.lines_of.Given as goal

-- the lines of the references so far
abbrev pub invariant-loop-reference : goal.invariant-loop-reference
invariant-loop-reference l = string_bytes l.text ≡ lines (bytes_of (take l.reference-index l.references))
