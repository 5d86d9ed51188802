use Rattle.std.proofs.Common.{inr, [], ◌∷◌, Some, bytes_eq, refl, sym}
use Rattle.elasticlunr_laws.proofs.Differing.{either_order, not_both, two_differ}
use Rattle.elasticlunr_laws.proofs.documents.two_documents_may_come_in_either_order.Goals as goal

pub returns : goal.returns
returns c = λ r s values others apart. c.current_documents_decide_the_text.ensures _ _
    (inr (record { documents = (r, values) ∷ (s, others) ∷ []; differ = two_differ r s apart; are = refl }))
    (inr (record { documents = (s, others) ∷ (r, values) ∷ []; differ = two_differ s r (λ e. apart (sym e)); are = refl }))
    (λ q. either_order (bytes_eq q r) (bytes_eq q s) (Some values) (Some others) (not_both q r s apart))
