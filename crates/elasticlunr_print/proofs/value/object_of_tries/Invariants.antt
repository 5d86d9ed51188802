use Rattle.std.proofs.Common.{map, string_bytes}
use Rattle.serde_json.specs.View.{members_view}
use Rattle.elasticlunr_print.proofs.Values.{WillHold}
use Rattle.elasticlunr_print.proofs.value.object_of_tries.Given as goal

abbrev pub invariant-loop-name : goal.invariant-loop-name
invariant-loop-name l = WillHold (map string_bytes l.fields) l.tries (map string_bytes l.name-iterator.a.rest.now)
    l.name-iterator.b.rest.now (members_view l.members.entries)
