use Rattle.std.proofs.Common.{◌≡◌, drop}
use Rattle.elasticlunr_error.specs.Text.{bytes_of}
use Rattle.elasticlunr_piece_search.specs.Documents.{columns_of, with_all_lengths}
use Rattle.elasticlunr_piece_search.proofs.documents.add_all_lengths.Given as goal

-- with the fields that are left it has all
abbrev pub invariant-loop-place : goal.invariant-loop-place
invariant-loop-place l = with_all_lengths l.store (bytes_of (drop l.place l.head.fields.items))
    (bytes_of l.head.references.items) (drop l.place (columns_of l.head))
    ≡ with_all_lengths l.initial.store (bytes_of l.head.fields.items) (bytes_of l.head.references.items)
    (columns_of l.head)
