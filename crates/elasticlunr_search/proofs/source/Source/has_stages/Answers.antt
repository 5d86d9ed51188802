use Rattle.std.proofs.Common.{◌↔◌, IsTrue, subst}
use Rattle.std.proofs.lemmas.Result.{IfOk-weaker}
use Rattle.std.specs.Prelude.{◌≡◌}
use Rattle.elasticlunr_text.specs.Text.{bytes_of}
use Rattle.elasticlunr_search.specs.Fields.{HasStages}
use Rattle.elasticlunr_search.proofs.Stages.{told_by_names}
use Rattle.elasticlunr_search.proofs.source.Source.has_stages.Goals as goal

pub returns-in-RebuiltIndex : goal.returns-in-RebuiltIndex
returns-in-RebuiltIndex c v is =
    let made = rw c.in-RebuiltIndex.is at is in
    told_by_names v _ (bytes_of c.args.stages.now) c.are_same.result made.stages
    (subst (λ ns. IsTrue c.are_same.result ↔ (bytes_of ns ≡ bytes_of c.args.stages.now)) c.deref.ensures.value
    c.are_same.ensures)

pub returns-in-Value : goal.returns-in-Value
returns-in-Value c = IfOk-weaker c.has_stages.result _ _ (λ has tells v is. let same = rw c.in-Value.is at is in subst
    (λ d. IsTrue has ↔ HasStages d (bytes_of c.args.stages.now)) same tells) c.has_stages.ensures
