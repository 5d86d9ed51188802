use Rattle.std.proofs.Common.{sym, subst}
use Rattle.elasticlunr.specs.Shape.{HasLanguage}
use Rattle.elasticlunr_search.proofs.Made.{IfSome-weaker}
use Rattle.elasticlunr_search.proofs.source.Source.language.Goals as goal

pub returns-in-RebuiltIndex-clause-named : goal.returns-in-RebuiltIndex-clause-named
returns-in-RebuiltIndex-clause-named c v is =
    let made = rw c.in-RebuiltIndex.is at is in
    subst (HasLanguage v) (sym c.as_str.ensures.value) made.language

pub returns-in-Value-clause-named : goal.returns-in-Value-clause-named
returns-in-Value-clause-named c = IfSome-weaker c.language_of.result _ _
    (λ name has v is. let same = rw c.in-Value.is at is in subst (λ d. HasLanguage d name.now) same has)
    c.language_of.ensures.named

pub returns-in-Value-clause-none : goal.returns-in-Value-clause-none
returns-in-Value-clause-none c none v name is = let same = rw c.in-Value.is at is in subst (λ d. ¬ HasLanguage d name)
    same (c.language_of.ensures.none none name)
