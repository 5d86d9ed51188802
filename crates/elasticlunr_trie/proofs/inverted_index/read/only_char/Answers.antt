use Rattle.std.proofs.Common.{◌∙◌, sym}
use Rattle.std.proofs.lemmas.List.{nil_from_length}
use Rattle.elasticlunr_trie.proofs.Reading.{some_bytes, two_characters}
use Rattle.elasticlunr_trie.proofs.inverted_index.read.only_char.Goals as goal

pub returns-in_err-c-clause-none : goal.returns-in_err-c-clause-none
returns-in_err-c-clause-none c _ x _ one = some_bytes x (sym one ∙ sym c.chars-letters.ensures.rest
    ∙ nil_from_length _ c.in_err-c.ensures.steps.0.0)

pub returns-in-Some-clause-none : goal.returns-in-Some-clause-none
returns-in-Some-clause-none c _ x _ one =
    two_characters _ _ _ c.in_ok-c.c c.in-Some.field-0 x (sym c.chars-letters.ensures.rest ∙ c.in_ok-c.ensures.steps.0)
    c.in-Some.ensures.steps.0 one
