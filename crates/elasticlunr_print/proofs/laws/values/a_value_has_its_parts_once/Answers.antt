use Rattle.elasticlunr_print.proofs.Shapes.{one_fields, one_language, one_store, one_tries}
use Rattle.elasticlunr_print.proofs.laws.values.a_value_has_its_parts_once.Goals as goal

pub returns : goal.returns
returns c = record {
  fields = one_fields;
  tries = one_tries c.one_table_a_value.ensures;
  store = one_store c.one_contents_a_value.ensures;
  language = one_language;
}
