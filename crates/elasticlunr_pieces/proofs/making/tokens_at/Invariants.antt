use Rattle.std.proofs.Common.{◌≡◌, ◌++◌, drop}
use Rattle.elasticlunr_error.specs.Text.{bytes_of}
use Rattle.elasticlunr_pieces.specs.Numbers.{told_texts, texts_at}
use Rattle.elasticlunr_pieces.proofs.making.tokens_at.Given as goal

-- the tokens so far, and those at the places that are left
abbrev pub invariant-loop-place : goal.invariant-loop-place
invariant-loop-place l = told_texts l.found.items ++ texts_at (bytes_of l.tokens) (drop l.place-index l.places)
    ≡ texts_at (bytes_of l.tokens) l.places
