use Rattle.std.proofs.Common.{◌+◌, Some, None, drop, ap, ◌∙◌}
use Rattle.elasticlunr_error.specs.Text.{bytes_of}
use Rattle.elasticlunr_piece_search.specs.Documents.{with_length_of, with_lengths}
use Rattle.elasticlunr_piece_search.proofs.Lengths.{next_length, past, there}
use Rattle.elasticlunr_piece_search.proofs.documents.add_lengths.Goals as goal
use Rattle.elasticlunr_piece_search.proofs.documents.add_lengths.Goals.{in-Some+in_ok-add_length, in_default}

pub loop-place-preserved : goal.loop-place-preserved
loop-place-preserved c =
    let field = c.args.field.now in
    let names = c.args.references.now in
    let lengths = c.args.lengths.now in
    let i = c.loop-place.place in
    let store = c.loop-place.store in
    let reference = c.index-references-place.result in
    elim c.match-get.branch [
      | in-Some+in_ok-add_length w ↦
          let n = w.in-Some.length.now in
          ap (λ s. with_lengths s field (bytes_of (drop (i + 1) names)) (drop (i + 1) lengths))
          (w.store-is ∙ w.in_ok-add_length.ensures ∙ ap (λ r. with_length_of store field r n) w.as_str.ensures.value)
          ∙ next_length store field names lengths i reference (Some n) c.loop-place-test.true
          c.index-references-place.is (there lengths i n w.in-Some.ensures.lookup.3.0 w.in-Some.ensures.lookup.1)
          ∙ c.loop-place.invariant
      | in_default w ↦
          ap (λ s. with_lengths s field (bytes_of (drop (i + 1) names)) (drop (i + 1) lengths)) w.store-is
          ∙ next_length store field names lengths i reference None c.loop-place-test.true
          c.index-references-place.is (past lengths i w.in_default.ensures.lookup.3)
          ∙ c.loop-place.invariant
    ]
