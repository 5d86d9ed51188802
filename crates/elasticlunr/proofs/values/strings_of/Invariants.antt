-- the strings so far are those of the first texts
use Rattle.std.proofs.Common.{◌≡◌, take}
use Rattle.elasticlunr_text.specs.Text.{texts_of, word_texts}
use Rattle.elasticlunr.proofs.values.strings_of.Given as goal

abbrev pub invariant-loop-text : goal.invariant-loop-text
invariant-loop-text l = texts_of l.strings.items ≡ word_texts (take l.text-index l.texts)
