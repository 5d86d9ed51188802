use Rattle.std.proofs.Common.{◌≡◌, drop}
use Rattle.elasticlunr_error.specs.Text.{bytes_of}
use Rattle.elasticlunr_piece_search.specs.Documents.{with_documents}
use Rattle.elasticlunr_piece_search.proofs.documents.add_references.Given as goal

-- with the references that are left it has all
abbrev pub invariant-loop-reference : goal.invariant-loop-reference
invariant-loop-reference l = with_documents l.store (bytes_of (drop l.reference-index l.references))
    ≡ with_documents l.initial.store (bytes_of l.references)
