use Rattle.elasticlunr.proofs.Word.{text_is}
use Rattle.elasticlunr.proofs.laws.word.one_word_is_a_path.Goals as goal

pub returns : goal.returns
returns c = λ language name stages reference_field field reference value token apart some only text_of text printed.
    text_is reference value token some reference_field field name stages _ apart only c.one_value_a_table.ensures
    text_of text printed
