use Rattle.std.proofs.Common.{inr, refl}
use Rattle.elasticlunr.proofs.AnyOrder.{same_current}
use Rattle.elasticlunr.proofs.laws.current.documents_may_come_in_any_order.Goals as goal

pub returns : goal.returns
returns c = λ documents others differ also same.
    c.current_documents_decide_the_text.ensures _ _
    (inr (record { documents = documents; differ = differ; are = refl }))
    (inr (record { documents = others; differ = also; are = refl }))
    (λ r. same_current r documents others differ also same)
