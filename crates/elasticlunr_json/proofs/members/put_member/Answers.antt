use Rattle.std.proofs.Common.{ap, ◌∙◌}
use Rattle.serde_json.proofs.Views.{members_view-insert_entry}
use Rattle.serde_json.specs.View.{members_view}
use Rattle.elasticlunr_json.proofs.members.put_member.Goals as goal

pub returns-clause-put : goal.returns-clause-put
returns-clause-put c = ap members_view c.in_ok-insert.ensures.entries
    ∙ members_view-insert_entry _ c.args.key c.args.value
