use Rattle.std.proofs.Common.{◌≡◌, ◌↔◌, IsTrue, Some, sym, ap, subst, ◌∙◌}
use Rattle.serde_json.specs.View.{view}
use Rattle.elasticlunr_text.specs.Text.{bytes_of}
use Rattle.elasticlunr_search.proofs.Stages.{told_by_names}
use Rattle.elasticlunr_search.proofs.parts.has_stages.Goals as goal

pub returns-in-Ok : goal.returns-in-Ok
returns-in-Ok c = told_by_names (view c.args.value.now) (bytes_of c.in-Ok.names.items) (bytes_of c.args.stages.now) _
    (sym c.in-Some.ensures ∙ ap Some c.in-Ok.ensures.ok)
    (subst (λ ns. IsTrue c.are_same.result ↔ (bytes_of ns ≡ bytes_of c.args.stages.now)) c.deref.ensures.value
    c.are_same.ensures)
