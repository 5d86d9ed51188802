use Rattle.std.proofs.Common.{◌≡◌, ◌++◌}
use Rattle.elasticlunr_json.specs.Maps.{members, count}
use Rattle.elasticlunr_json.specs.Tokens.{tokens_of}
use Rattle.elasticlunr_json.proofs.Sorted.{shown}
use Rattle.elasticlunr_store_maps.proofs.write.write_lengths.Given as goal

-- what was written, and the entries that are left
abbrev pub invariant-loop-field : goal.invariant-loop-field
invariant-loop-field g l =
    g.W.Tokens.written l.out ++ tokens_of (members (count) (shown (λ n. n) l.field-iterator))
    ≡ g.W.Tokens.written l.initial.out ++ tokens_of (members (count) (shown (λ n. n) l.lengths.entries))
