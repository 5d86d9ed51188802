use Rattle.std.proofs.Common.{refl}
use Rattle.serde_json.specs.Read.{max_depth}
use Rattle.serde_json.specs.View.{view}
use Rattle.elasticlunr_text.specs.Text.{bytes_of}
use Rattle.elasticlunr_search.proofs.Whole.{print_parts}
use Rattle.elasticlunr_search.proofs.searcher.Searcher.from_value.Goals as goal

pub returns-clause-stands : goal.returns-clause-stands
returns-clause-stands g c plan commands text reads print =
    let printed = c.in_ok-printed.printed in
    let law = c.printed_texts_have_their_parts.ensures.only in
    record {
      speaks = record { its_language = refl; stages = c.in_ok-pipeline.ensures.leaves };
      read = law plan commands text (view c.args.value.now) (bytes_of printed.fields.items) printed.tries.items
          printed.store print reads (print_parts plan commands text (view c.args.value.now) _ _ _ print
          (max_depth, reads) c.in_ok-printed.ensures.parts);
    }
