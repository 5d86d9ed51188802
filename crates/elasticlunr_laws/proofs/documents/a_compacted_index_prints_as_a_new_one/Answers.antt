use Rattle.std.proofs.Common.{inl, inr, refl}
use Rattle.elasticlunr_laws.proofs.documents.a_compacted_index_prints_as_a_new_one.Goals as goal

pub returns : goal.returns
returns c = λ calls documents own same. c.current_documents_decide_the_text.ensures _ _
    (inl (record { earlier = calls; are = refl })) (inr (record { documents = documents; differ = own; are = refl })) same
