use Rattle.std.proofs.Common.{◌≡◌}
use Rattle.elasticlunr_text.specs.Text.{text_of}
use Rattle.elasticlunr_lang.specs.Words.{in_lower_case}
use Rattle.elasticlunr_lang.proofs.words.word_of.Given as goal

-- the characters so far in lower case
abbrev pub invariant-loop-c : goal.invariant-loop-c
invariant-loop-c l = text_of l.word ≡ in_lower_case l.yielded
