use Rattle.std.proofs.Common.{◌≡◌, ◌++◌, take}
use Rattle.std.specs.List.{flat_map}
use Rattle.elasticlunr_text.specs.Text.{texts_of, word_texts}
use Rattle.elasticlunr_job.proofs.kept.all_words.Given as goal

-- the words of the lists so far, and those of this one
abbrev pub invariant-loop-word : goal.invariant-loop-word
invariant-loop-word l = word_texts l.words.items
    ≡ flat_map (λ list. texts_of list.items) (take l.list-index l.kept) ++ texts_of (take l.word-index l.word-items)

abbrev pub invariant-loop-list : goal.invariant-loop-list
invariant-loop-list l = word_texts l.words.items ≡ flat_map (λ list. texts_of list.items) (take l.list-index l.kept)
