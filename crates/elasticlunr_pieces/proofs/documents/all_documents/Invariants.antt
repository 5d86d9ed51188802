use Rattle.std.proofs.Common.{◌≡◌, ◌++◌, map}
use Rattle.elasticlunr_store.specs.Contents.{text_map}
use Rattle.elasticlunr_pieces.specs.Numbers.{told_documents}
use Rattle.elasticlunr_pieces.proofs.documents.all_documents.Given as goal

-- what was found so far, and what is left
abbrev pub invariant-loop-document : goal.invariant-loop-document
invariant-loop-document l = told_documents l.documents.items ++ map (λ e. text_map e.1.entries) l.document-iterator
    ≡ map (λ e. text_map e.1.entries) l.initial.document-iterator
