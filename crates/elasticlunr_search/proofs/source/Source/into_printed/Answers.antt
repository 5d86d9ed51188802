use Rattle.std.proofs.Common.{subst}
use Rattle.std.proofs.lemmas.Result.{IfErr-weaker, IfOk-weaker}
use Rattle.elasticlunr_text.specs.Text.{bytes_of}
use Rattle.elasticlunr_search.specs.Fields.{IsIndexOf}
use Rattle.elasticlunr_search.specs.Refusal.{Lacks}
use Rattle.elasticlunr_search.proofs.source.Source.into_printed.Goals as goal

pub returns-in-RebuiltIndex-clause-parts : goal.returns-in-RebuiltIndex-clause-parts
returns-in-RebuiltIndex-clause-parts c v is = let made = rw c.in-RebuiltIndex.is at is in made.parts

pub returns-in-Value-clause-parts : goal.returns-in-Value-clause-parts
returns-in-Value-clause-parts c = IfOk-weaker c.of_value.result _ _
    (λ p parts v is. let same = rw c.in-Value.is at is in subst
    (λ d. IsIndexOf d (bytes_of p.fields.items) p.tries.items p.store) same parts) c.of_value.ensures.parts

pub returns-in-Value-clause-lacks : goal.returns-in-Value-clause-lacks
returns-in-Value-clause-lacks c = IfErr-weaker c.of_value.result _ _
    (λ e lacks v is. let same = rw c.in-Value.is at is in subst (λ d. Lacks d e) same lacks) c.of_value.ensures.lacks
