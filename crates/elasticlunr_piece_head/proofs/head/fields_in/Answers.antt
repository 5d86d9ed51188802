use Rattle.std.proofs.Common.{◌≢◌, true≢false, refl, sym, ap, ◌∙◌, subst}
use Rattle.std.specs.List.{AllPairs}
use Rattle.elasticlunr_error.specs.Text.{bytes_of}
use Rattle.elasticlunr_piece_head.proofs.Items.{one_texts}
use Rattle.elasticlunr_piece_head.proofs.head.fields_in.Goals as goal

pub returns-else-branch-clause-fault : goal.returns-else-branch-clause-fault
returns-else-branch-clause-fault c = (
  refl,
  λ names has differ.
      let same = one_texts names (bytes_of c.in_ok-fields.fields.items) _ has c.in_ok-fields.ensures.has in
      true≢false (sym (c.in_ok-are_different.ensures.1 (subst (AllPairs (λ name other. name ≢ other))
      (same ∙ ap bytes_of (sym c.deref.ensures.value)) differ)) ∙ c.if-branch.false),
)
