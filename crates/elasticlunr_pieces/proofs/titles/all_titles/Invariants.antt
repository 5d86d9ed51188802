use Rattle.std.proofs.Common.{◌≡◌, ◌++◌, map, drop}
use Rattle.elasticlunr_pieces.specs.Entries.{title_of}
use Rattle.elasticlunr_pieces.specs.Numbers.{told_documents, told_texts}
use Rattle.elasticlunr_pieces.proofs.titles.all_titles.Given as goal

-- the titles so far, and those of the documents that are left
abbrev pub invariant-loop-document : goal.invariant-loop-document
invariant-loop-document l = told_texts l.titles.items
    ++ map (title_of l.field) (told_documents (drop l.document-index l.documents))
    ≡ map (title_of l.field) (told_documents l.documents)
