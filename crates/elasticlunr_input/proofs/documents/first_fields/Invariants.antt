-- the keys so far, and those that are still to come
use Rattle.std.proofs.Common.{◌≡◌, ◌++◌, map}
use Rattle.elasticlunr_input.proofs.FieldKeys.{entry_keys}
use Rattle.elasticlunr_input.proofs.documents.first_fields.Given as goal

abbrev pub invariant-loop-key : goal.invariant-loop-key
invariant-loop-key l = map (λ s. s.now) l.fields.items ++ entry_keys l.reference_key l.key-iterator
    ≡ entry_keys l.reference_key l.initial.key-iterator
