use Rattle.std.proofs.Common.{◌≡◌, ◌++◌, map, take}
use Rattle.std.specs.Vec.Iter.{into_iter_items}
use Rattle.elasticlunr_text.specs.Text.{bytes_of}
use Rattle.elasticlunr_input.specs.Warnings.{warnings_of}
use Rattle.elasticlunr_input.proofs.Warned.{texts_of}
use Rattle.elasticlunr_input.proofs.notes.Notes.without_token.Given as goal

-- the references so far
abbrev pub invariant-loop-reference : goal.invariant-loop-reference
invariant-loop-reference l = record {
  found : map (λ document. document.1.now) l.found.items ≡ take l.reference-index (bytes_of l.references);
  same : warnings_of l.self ≡ warnings_of l.fn.self;
}

-- the warnings so far, and those that are left
abbrev pub invariant-loop-number : goal.invariant-loop-number
invariant-loop-number l = warnings_of l.self ++ texts_of (into_iter_items l.number-iterator)
    ≡ warnings_of l.fn.self ++ texts_of (into_iter_items l.initial.number-iterator)
