use Rattle.std.proofs.Common.{sym, ◌∙◌, true≢false}
use Rattle.elasticlunr_piece_head.specs.Fault.{other_lengths, other_texts, other_titles, other_sizes}
use Rattle.elasticlunr_piece_head.proofs.head.PieceHead.check_numbers.Goals as goal

pub returns-then-not-lengths_fit-clause-fault : goal.returns-then-not-lengths_fit-clause-fault
returns-then-not-lengths_fit-clause-fault c = other_lengths (λ fit. true≢false (sym (c.lengths_fit.ensures.1 fit)
    ∙ c.if-not-lengths_fit.true))

pub returns-then-not-texts_fit-clause-fault : goal.returns-then-not-texts_fit-clause-fault
returns-then-not-texts_fit-clause-fault c = other_texts (λ fit. true≢false (sym (c.texts_fit.ensures.1 fit)
    ∙ c.if-not-texts_fit.true))

pub returns-then-not-titles_fit-clause-fault : goal.returns-then-not-titles_fit-clause-fault
returns-then-not-titles_fit-clause-fault c = other_titles (λ fit. true≢false (sym (c.titles_fit.ensures.1 fit)
    ∙ c.if-not-titles_fit.true))

pub returns-then-not-sizes_fit-clause-fault : goal.returns-then-not-sizes_fit-clause-fault
returns-then-not-sizes_fit-clause-fault c = other_sizes (λ fit. true≢false (sym (c.sizes_fit.ensures.1 fit)
    ∙ c.if-not-sizes_fit.true))
