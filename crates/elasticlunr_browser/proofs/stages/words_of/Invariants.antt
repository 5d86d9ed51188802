use Rattle.std.proofs.Common.{◌≡◌, map}
use Rattle.std.specs.Map.Iter.{deref}
use Rattle.elasticlunr_text.specs.Text.{texts_of}
use Rattle.elasticlunr_browser.proofs.stages.words_of.Given as goal

-- the words so far
abbrev pub invariant-loop-word : goal.invariant-loop-word
invariant-loop-word l = texts_of l.words.items ≡ texts_of (map deref l.yielded)
