use Rattle.std.proofs.Common.{◌≡◌, ◌++◌, map, string_bytes}
use Rattle.elasticlunr_pieces.specs.Numbers.{told_texts}
use Rattle.elasticlunr_pieces.proofs.documents.references_of.Given as goal

-- what was found so far, and what is left
abbrev pub invariant-loop-reference : goal.invariant-loop-reference
invariant-loop-reference l = told_texts l.names.items ++ map (λ e. string_bytes e.0) l.reference-iterator
    ≡ map (λ e. string_bytes e.0) l.initial.reference-iterator
