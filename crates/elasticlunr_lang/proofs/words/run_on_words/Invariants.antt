use Rattle.std.proofs.Common.{◌≡◌, ◌++◌, List, ℕ, chars, option_map}
use Rattle.elasticlunr_text.specs.Text.{texts_of}
use Rattle.elasticlunr_lang.specs.Read.{IsReadAs}
use Rattle.elasticlunr_lang.specs.Words.{words}
use Rattle.elasticlunr_lang.proofs.WordsLemmas.{words_left, bytes_left}
use Rattle.elasticlunr_lang.proofs.words.run_on_words.Given as goal

-- of the words so far this is left, and then come those of what is left of the text
abbrev pub invariant-loop-left : goal.invariant-loop-left
invariant-loop-left g l =
    (tokens : List (List ℕ)) × (words (chars l.fn.text)
    ≡ tokens ++ words_left (option_map (λ text. chars text.now) l.left))
    × IsReadAs (λ z. (goal.PipelineFn-dyn g z).leaves z.1) l.pipeline tokens (texts_of l.kept.items)

abbrev pub decreases-loop-left : goal.decreases-loop-left
decreases-loop-left g l = bytes_left l.left
