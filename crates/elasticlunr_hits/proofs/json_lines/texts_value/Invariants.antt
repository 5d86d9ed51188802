use Rattle.std.proofs.Common.{◌≡◌, string_bytes}
use Rattle.serde_json.specs.Data.{string}
use Rattle.serde_json.specs.View.{members_view}
use Rattle.elasticlunr_json.specs.Maps.{members}
use Rattle.elasticlunr_json.proofs.Sorted.{shown}
use Rattle.elasticlunr_hits.proofs.json_lines.texts_value.Given as goal

-- a member for each entry that was read
abbrev pub invariant-loop-field : goal.invariant-loop-field
invariant-loop-field l = members_view l.members.entries ≡ members string (shown string_bytes l.yielded)
