use Rattle.elasticlunr_piece_laws.proofs.Printed.{are_read}
use Rattle.elasticlunr_piece_laws.proofs.laws.a_searcher_has_what_was_printed.Goals as goal

pub returns : goal.returns
returns g c plan tables contents text print named =
    let read = are_read c.one_table_a_value.ensures c.one_contents_a_value.ensures plan tables contents text named.value
    _ _ _ print named.reads named.parts in
    record { its_fields = read.fields; its_tables = read.tries; its_contents = read.store }
