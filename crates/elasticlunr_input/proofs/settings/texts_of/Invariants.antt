-- the texts so far are those of the first strings
use Rattle.std.proofs.Common.{◌≡◌, map, take}
use Rattle.elasticlunr_text.specs.Text.{bytes_of}
use Rattle.elasticlunr_input.proofs.settings.texts_of.Given as goal

abbrev pub invariant-loop-name : goal.invariant-loop-name
invariant-loop-name l = map (λ s. s.now) l.texts.items ≡ bytes_of (take l.name-index l.names)
