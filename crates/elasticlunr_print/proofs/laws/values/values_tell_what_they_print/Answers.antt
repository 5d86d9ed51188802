use Rattle.elasticlunr_print.proofs.Telling.{told_by_value}
use Rattle.elasticlunr_print.proofs.laws.values.values_tell_what_they_print.Goals as goal

pub returns : goal.returns
returns c = λ plan tables contents v own other others kept many are is.
    told_by_value c.one_table_a_value.ensures c.one_contents_a_value.ensures plan other tables others contents kept v
    own.differ own.one_each own.are_tables many are own.printed is
