use Rattle.std.proofs.Common.{option_map, sym, ap, ◌∙◌}
use Rattle.serde_json.specs.View.{view}
use Rattle.elasticlunr_json_place.specs.Members.{path_told}
use Rattle.elasticlunr_json_place.proofs.Members.{has_value}
use Rattle.elasticlunr_json_place.proofs.member.has_value.Goals as goal

pub returns-in-Some-follow : goal.returns-in-Some-follow
returns-in-Some-follow c =
    has_value c.args.line (path_told c.args.path.now) c.args.text.now c.args.span.start c.args.span.end
    c.in-Some.bytes.now
    (view c.in-Some-2.found) (view c.in-Some-3.whole) (view c.in-Some-follow.value.now)
    c.in-Some.ensures.lookup.0.2 (ap (option_map view) (sym c.in-Some-2.is) ∙ c.in_ok-found.ensures)
    (ap (option_map view) (sym c.in-Some-3.is) ∙ c.in_ok-whole.ensures)
    c.in-Some-follow.ensures c.is_same.result c.is_same.ensures
