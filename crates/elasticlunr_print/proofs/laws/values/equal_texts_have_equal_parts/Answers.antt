use Rattle.elasticlunr_print.proofs.AfterCommands.{parts_of_text}
use Rattle.elasticlunr_print.proofs.laws.values.equal_texts_have_equal_parts.Goals as goal

pub returns : goal.returns
returns c = λ one_text other_text plan other tables others contents kept text one also.
    parts_of_text plan tables contents one_text text one (c.values_tell_what_they_print.ensures plan tables contents)
    other_text other others kept also
