use Rattle.std.proofs.Common.{◌≡◌, ◌++◌, string_bytes}
use Rattle.serde_json.specs.Data.{string}
use Rattle.elasticlunr_json.specs.Maps.{members}
use Rattle.elasticlunr_json.specs.Tokens.{tokens_of}
use Rattle.elasticlunr_json.proofs.Sorted.{shown}
use Rattle.elasticlunr_pieces.proofs.texts.write_document.Given as goal

-- what was written, and the entries that are left
abbrev pub invariant-loop-field : goal.invariant-loop-field
invariant-loop-field g l =
    g.W.Tokens.written l.out ++ tokens_of (members (string) (shown (string_bytes) l.field-iterator))
    ≡ g.W.Tokens.written l.initial.out ++ tokens_of (members (string) (shown (string_bytes) l.document.entries))
