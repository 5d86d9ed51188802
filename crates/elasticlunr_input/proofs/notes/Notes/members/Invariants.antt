use Rattle.std.proofs.Common.{◌≡◌, ◌++◌, ◌||◌, map}
use Rattle.elasticlunr_text.specs.Text.{Bytes, is_listed}
use Rattle.elasticlunr_input.specs.Noted.{HasSameWords, new_keys}
use Rattle.elasticlunr_input.specs.Warnings.{is_known, unindexed_text, warnings_of}
use Rattle.elasticlunr_input.proofs.FieldKeys.{keys_left}
use Rattle.elasticlunr_input.proofs.notes.Notes.members.Given as goal

-- the warnings so far, and those of the keys that are left
abbrev pub invariant-loop-key : goal.invariant-loop-key
invariant-loop-key l = record {
  warnings : warnings_of l.self ++ map (unindexed_text l.fn.self.taken l.reference)
      (new_keys (is_known l.self) (keys_left l.key-iterator))
      ≡ warnings_of l.fn.self ++ map (unindexed_text l.fn.self.taken l.reference)
      (new_keys (is_known l.fn.self) (keys_left l.initial.key-iterator));
  known : (k : Bytes) → (is_known l.self k || is_listed k (keys_left l.key-iterator))
      ≡ (is_known l.fn.self k || is_listed k (keys_left l.initial.key-iterator));
  references : l.self.references ≡ l.fn.self.references;
  taken : l.self.taken ≡ l.fn.self.taken;
  words : HasSameWords l.fn.self l.self;
}
