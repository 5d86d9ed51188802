use Rattle.std.proofs.Common.{◌≡◌, ◌++◌, List, map}
use Rattle.std.specs.Borrow.{Bor}
use Rattle.elasticlunr_error.specs.Text.{Bytes, bytes_of}
use Rattle.elasticlunr_trie.proofs.texts.copied.Given as goal

-- the texts so far
abbrev pub invariant-loop-text : goal.invariant-loop-text
invariant-loop-text l = (done : List (Bor Bytes)) × (done ++ l.text-iterator ≡ l.texts.keys)
    × (bytes_of l.copies.items ≡ map (λ t. t.now) done)
