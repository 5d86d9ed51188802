use Rattle.std.proofs.Common.{◌≡◌, take}
use Rattle.elasticlunr_error.specs.Text.{text_of}
use Rattle.elasticlunr_stems.proofs.text.text_from.Given as goal

abbrev pub invariant-loop-c : goal.invariant-loop-c
invariant-loop-c l = text_of l.text ≡ take l.c-index l.letters
