-- the copies so far are those of the first texts
use Rattle.std.proofs.Common.{◌≡◌, map, take}
use Rattle.elasticlunr_text.specs.Text.{bytes_of}
use Rattle.elasticlunr_cli_build.proofs.given.copies_of.Given as goal

abbrev pub invariant-loop-text : goal.invariant-loop-text
invariant-loop-text l = bytes_of l.copies.items ≡ map (λ s. s.now) (take l.text-index l.texts)
