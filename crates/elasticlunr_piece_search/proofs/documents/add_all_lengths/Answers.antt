use Rattle.std.proofs.Common.{◌≡◌, ◌<◌, ◌≤◌, ◌+◌, Some, None, drop, get_or, length, ap, subst, ◌∙◌}
use Rattle.elasticlunr_error.specs.Text.{bytes_of}
use Rattle.elasticlunr_piece_search.specs.Documents.{columns_of, with_all_lengths, with_lengths}
use Rattle.elasticlunr_piece_search.proofs.Lengths.{mapped_there, next_column, past, there}
use Rattle.elasticlunr_piece_search.proofs.documents.add_all_lengths.Goals as goal
use Rattle.elasticlunr_piece_search.proofs.documents.add_all_lengths.Goals.{in-Some+in_ok-add_lengths, in_default}

pub loop-place-preserved : goal.loop-place-preserved
loop-place-preserved c =
    let head = c.args.head.now in
    let fields = head.fields.items in
    let names = bytes_of head.references.items in
    let vectors = head.lengths.items in
    let i = c.loop-place.place in
    let store = c.loop-place.store in
    let field = c.field-item.result in
    let same = c.deref-field-items.ensures.value in
    let lt : i < length fields = subst (λ xs. i < length xs) same c.loop-place-test.true in
    let at : field ≡ get_or fields i field = c.field-item.is ∙ ap (λ xs. get_or xs i field) same in
    let columns = c.deref.ensures.value in
    elim c.match-get.branch [
      | in-Some+in_ok-add_lengths w ↦
          let vector = w.in-Some.lengths.now in
          let here : i < length vectors = subst (λ xs. i < length xs) columns w.in-Some.ensures.lookup.3.0 in
          let its : vector ≡ get_or vectors i vector = w.in-Some.ensures.lookup.1
          ∙ ap (λ xs. get_or xs i vector) columns in
          ap (λ s. with_all_lengths s (bytes_of (drop (i + 1) fields)) names (drop (i + 1) (columns_of head)))
          (w.store-is ∙ w.in_ok-add_lengths.ensures
          ∙ (λ j. with_lengths store (w.as_str.ensures.value j) (bytes_of (w.deref-in-Some.ensures.value j))
          (w.deref-in-Some-2.ensures.value j)))
          ∙ next_column store fields names (columns_of head) i field (Some vector.items) lt at
          (mapped_there (λ column. column.items) vectors i (Some vector) (there vectors i vector here its))
          ∙ c.loop-place.invariant
      | in_default w ↦
          let none : length vectors ≤ i = subst (λ xs. length xs ≤ i) columns w.in_default.ensures.lookup.3 in
          ap (λ s. with_all_lengths s (bytes_of (drop (i + 1) fields)) names (drop (i + 1) (columns_of head))) w.store-is
          ∙ next_column store fields names (columns_of head) i field None lt at
          (mapped_there (λ column. column.items) vectors i None (past vectors i none))
          ∙ c.loop-place.invariant
    ]
