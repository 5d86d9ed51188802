-- Faults that are passed on.
use Rattle.std.proofs.Common.{◌≡◌, Result, Ok, Err, Some, IfErr, IsErrAnd, inl, refl, sym, subst, ◌∙◌}
use Rattle.serde_json.specs.Data.{Data}
use Rattle.elasticlunr_error.specs.Text.{Bytes}
use Rattle.serde_json.specs.Read.{read}
use Rattle.elasticlunr_piece_head.specs.Fault.{IsHeadFault, IsMisfit, IsOfMember, IsSizesFault, IsUnfit, IsValueFault}
use Rattle.elasticlunr_piece_head.specs.Fault.{no_numbers, unfit}
use Rattle.elasticlunr_piece_head.specs.Head.{Says}
use Rattle.elasticlunr_piece_head.specs.declared.head.PieceHead.{PieceHead}
use Rattle.elasticlunr_piece_head.specs.declared.fault.HeadFault.{HeadFault}
use Rattle.elasticlunr_piece_head.specs.declared.fault.HeadFault.TheVariants.{NotRead, Older, Member, Memory}

-- the fault of a member for another reason
pub of_member_for : (key : Bytes) (P Q : Type 0) → (P → Q) → (e : HeadFault) → IsOfMember key P e → IsOfMember key Q e
of_member_for key P Q f NotRead p = elim p [ ]
of_member_for key P Q f Older p = elim p [ ]
of_member_for key P Q f (Member k) p = (p.0, f p.1)
of_member_for key P Q f Memory p = tt

pub member_again : {U : Type 0} (key : Bytes) (P Q : Type 0) → (P → Q) → (e : HeadFault) (r : Result U HeadFault)
    → IsErrAnd r (λ x. x ≡ e) → IsOfMember key P e → IfErr r (IsOfMember key Q)
member_again key P Q f e (Ok x) h p = tt
member_again key P Q f e (Err x) h p = of_member_for key P Q f x (subst (IsOfMember key P) (sym h) p)

-- the fault of a value because of a member
misfit : (v : Data) (key : Bytes) (P : Type 0) → (P → IsMisfit v key) → (e : HeadFault) → IsOfMember key P e
    → IsValueFault v e
misfit v key P f NotRead p = elim p [ ]
misfit v key P f Older p = elim p [ ]
misfit v key P f (Member k) p = subst (IsMisfit v) (sym p.0) (f p.1)
misfit v key P f Memory p = tt

pub misfit_again : {U : Type 0} (v : Data) (key : Bytes) (P : Type 0) → (P → IsMisfit v key) → (e : HeadFault)
    (r : Result U HeadFault) → IsErrAnd r (λ x. x ≡ e) → IsOfMember key P e → IfErr r (IsValueFault v)
misfit_again v key P f e (Ok x) h p = tt
misfit_again v key P f e (Err x) h p = misfit v key P f x (subst (IsOfMember key P) (sym h) p)

-- memory was refused
pub no_memory : {U : Type 0} (key : Bytes) (Q : Type 0) → (e : HeadFault) (r : Result U HeadFault)
    → IsErrAnd r (λ x. x ≡ e) → e ≡ Memory → IfErr r (IsOfMember key Q)
no_memory key Q e (Ok x) h is = tt
no_memory key Q e (Err x) h is = subst (IsOfMember key Q) (sym (h ∙ is)) tt

-- the fault of a value because of its sizes
sizes_misfit : (v : Data) (e : HeadFault) → IsSizesFault v e → IsValueFault v e
sizes_misfit v NotRead p = elim p [ ]
sizes_misfit v Older p = p
sizes_misfit v (Member k) p = subst (IsMisfit v) (sym p.0) (no_numbers (inl refl) p.1)
sizes_misfit v Memory p = tt

pub sizes_again : {U : Type 0} (v : Data) (e : HeadFault) (r : Result U HeadFault) → IsErrAnd r (λ x. x ≡ e)
    → IsSizesFault v e → IfErr r (IsValueFault v)
sizes_again v e (Ok x) h p = tt
sizes_again v e (Err x) h p = sizes_misfit v x (subst (IsSizesFault v) (sym h) p)

-- the fault of a text whose value doesn't fit together
unfit_text : (text : Bytes) (v : Data) (head : PieceHead) → read text ≡ Some v → Says v head → (e : HeadFault)
    → IsUnfit head e → IsHeadFault text e
unfit_text text v head is says NotRead p = elim p [ ]
unfit_text text v head is says Older p = elim p [ ]
unfit_text text v head is says (Member k) p = (v, is, unfit head says p)
unfit_text text v head is says Memory p = elim p [ ]

pub unfit_again : {U : Type 0} (text : Bytes) (v : Data) (head : PieceHead) → read text ≡ Some v → Says v head
    → (e : HeadFault) (r : Result U HeadFault) → IsErrAnd r (λ x. x ≡ e) → IsUnfit head e → IfErr r (IsHeadFault text)
unfit_again text v head is says e (Ok x) h p = tt
unfit_again text v head is says e (Err x) h p = unfit_text text v head is says x (subst (IsUnfit head) (sym h) p)
