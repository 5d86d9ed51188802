use Rattle.std.proofs.Common.{◌≡◌, ◌++◌, filter, not}
use Rattle.std.specs.Vec.Iter.{into_iter_items}
use Rattle.elasticlunr_text.specs.Text.{bytes_of}
use Rattle.elasticlunr_pieces.specs.Numbers.{told_texts}
use Rattle.elasticlunr_input.specs.Counts.{has_token, without_token}
use Rattle.elasticlunr_input.proofs.counts.without_token.Given as goal

-- the references so far, and those that are left
abbrev pub invariant-loop-reference : goal.invariant-loop-reference
invariant-loop-reference l = bytes_of l.found.items
    ++ filter (λ r. not (has_token (bytes_of l.fields) l.store r)) (told_texts (into_iter_items l.reference-iterator))
    ≡ without_token (bytes_of l.fields) l.store
