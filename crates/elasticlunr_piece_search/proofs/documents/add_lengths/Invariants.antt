use Rattle.std.proofs.Common.{◌≡◌, drop}
use Rattle.elasticlunr_error.specs.Text.{bytes_of}
use Rattle.elasticlunr_piece_search.specs.Documents.{with_lengths}
use Rattle.elasticlunr_piece_search.proofs.documents.add_lengths.Given as goal

-- with the lengths that are left it has all
abbrev pub invariant-loop-place : goal.invariant-loop-place
invariant-loop-place l = with_lengths l.store l.field (bytes_of (drop l.place l.references)) (drop l.place l.lengths)
    ≡ with_lengths l.initial.store l.field (bytes_of l.references) l.lengths
