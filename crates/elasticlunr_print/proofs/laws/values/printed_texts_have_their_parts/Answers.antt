use Rattle.serde_json.specs.Read.{max_depth}
use Rattle.elasticlunr_print.proofs.Held.{language_held}
use Rattle.elasticlunr_print.proofs.Shapes.{parts_held, parts_read}
use Rattle.elasticlunr_print.proofs.laws.values.printed_texts_have_their_parts.Goals as goal

pub returns : goal.returns
returns c = record {
  parts = parts_held;
  language = λ plan commands text print. language_held plan print.tables print.contents print.value print.printed;
  only = parts_read c.one_table_a_value.ensures c.one_contents_a_value.ensures max_depth;
  only_within = λ plan commands text limit. parts_read c.one_table_a_value.ensures c.one_contents_a_value.ensures limit
      plan commands text;
}
