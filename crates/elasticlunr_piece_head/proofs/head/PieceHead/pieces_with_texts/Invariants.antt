use Rattle.std.proofs.Common.{◌<◌, ◌↔◌, ℕ, [], get_or, map, string_bytes}
use Rattle.std.specs.Prelude.{IsTrue}
use Rattle.std.specs.BTreeSet.{contains}
use Rattle.std.specs.List.Sorted.{IsStrictlySortedBy}
use Rattle.std.specs.Ordering.{nat_cmp}
use Rattle.elasticlunr_error.specs.Text.{bytes_of, text_cmp}
use Rattle.elasticlunr_piece_head.specs.Holders.{HasDocument}
use Rattle.elasticlunr_piece_head.proofs.head.PieceHead.pieces_with_texts.Given as goal

-- the pieces that have the documents of the references so far
abbrev pub invariant-loop-reference : goal.invariant-loop-reference
invariant-loop-reference l = IsStrictlySortedBy text_cmp (bytes_of l.self.references.items) → (q : ℕ)
    → IsTrue (contains nat_cmp l.numbers q) ↔ ((k : ℕ) × (k < l.reference-index)
    × HasDocument l.self q (get_or (map (λ r. string_bytes r.now) l.references) k []))
