use Rattle.std.proofs.Common.{true≢false, refl, sym, ap, ◌∙◌, subst}
use Rattle.std.specs.List.Sorted.{IsStrictlySortedBy}
use Rattle.elasticlunr_error.specs.Text.{bytes_of, text_cmp}
use Rattle.elasticlunr_piece_head.proofs.Items.{one_texts}
use Rattle.elasticlunr_piece_head.proofs.head.rising_in.Goals as goal

pub returns-else-rise-clause-fault : goal.returns-else-rise-clause-fault
returns-else-rise-clause-fault c = (
  refl,
  λ texts has sorted.
      let same = one_texts texts (bytes_of c.in_ok-texts.texts.items) _ has c.in_ok-texts.ensures.has in
      true≢false (sym (c.rise.ensures.1 (subst (IsStrictlySortedBy text_cmp)
      (same ∙ ap bytes_of (sym c.deref.ensures.value)) sorted)) ∙ c.if-rise.false),
)
