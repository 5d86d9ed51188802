use Rattle.std.proofs.Common.{◌↔◌, IsTrue, subst, ap, ◌∙◌, not, bytes_eq}
use Rattle.elasticlunr_search.specs.Refusal.{NamesOther}
use Rattle.elasticlunr_search.proofs.Naming.{names_one}
use Rattle.elasticlunr_search.proofs.source.Source.names_other.Goals as goal

pub returns-in-RebuiltIndex : goal.returns-in-RebuiltIndex
returns-in-RebuiltIndex c v is =
    let made = rw c.in-RebuiltIndex.is at is in
    names_one c.args.language.now _ v _ made.language (c.ne.ensures ∙ ap (λ n. not (bytes_eq n c.args.language.now))
    c.as_str.ensures.value)

pub returns-in-Value : goal.returns-in-Value
returns-in-Value c v is =
    let same = rw c.in-Value.is at is in
    subst (λ d. IsTrue c.names_other.result ↔ NamesOther c.args.language.now d) same c.names_other.ensures
