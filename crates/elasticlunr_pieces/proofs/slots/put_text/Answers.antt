use Rattle.std.proofs.Common.{[], Some, sym, ap, ◌∙◌}
use Rattle.elasticlunr_pieces.specs.Entries.{number_of}
use Rattle.elasticlunr_pieces.specs.Numbers.{told_texts}
use Rattle.elasticlunr_pieces.proofs.Numbering.{told_number}
use Rattle.elasticlunr_pieces.proofs.slots.put_text.Goals as goal

pub returns : goal.returns
returns c are =
    let texts = told_texts c.args.texts.now in
    let place = told_number c.args.texts.now c.args.place (record { ref_ptr = (0, 0); now = [] }) c.requires.order
    c.requires.there in
    c.put_slot.ensures texts are (λ taken. ap (number_of texts) c.in-Some.ensures.0 ∙ place
    ∙ ap Some (sym (c.in-Some.ensures.1 ∙ c.in-Ok.ensures.1)))
