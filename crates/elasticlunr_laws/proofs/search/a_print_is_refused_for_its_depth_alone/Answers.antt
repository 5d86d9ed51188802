use Rattle.std.proofs.Common.{inl, inr}
use Rattle.elasticlunr_laws.proofs.search.a_print_is_refused_for_its_depth_alone.Goals as goal

pub returns : goal.returns
returns c = λ language plan calls text e its_name its_stages printed refuses.
    elim (refuses plan printed.commands printed.print) [
      | inl memory ↦ inl memory
      | inr more ↦ elim more [
        | inl deep ↦ inr (deep.0, (text, printed, deep.1))
        | inr other ↦ elim other [ inl name ↦ absurd (name.1 its_name) | inr stages ↦ absurd (stages.1 its_stages) ]
      ]
    ]
