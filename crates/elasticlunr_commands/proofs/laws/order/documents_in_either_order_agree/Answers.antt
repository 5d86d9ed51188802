use Rattle.std.proofs.Common.{◌≡◌, Bool, true, false, cond, inl, inr, bytes_eq, refl, sym, ◌∙◌}
use Rattle.std.proofs.lemmas.Slice.Eq.{bytes_eq-Decides}
use Rattle.elasticlunr_commands.specs.History.{Command, Commands, ◌▸◌, add}
use Rattle.elasticlunr_commands.proofs.laws.order.documents_in_either_order_agree.Goals as goal

swapped : (a b : Bool) (x : Commands) (d e : Command) → (a ≡ true → b ≡ true → ⊥)
    → cond b (cond a (x ▸ d) x ▸ e) (cond a (x ▸ d) x) ≡ cond a (cond b (x ▸ e) x ▸ d) (cond b (x ▸ e) x)
swapped true true x d e apart = absurd (apart refl refl)
swapped true false x d e apart = refl
swapped false true x d e apart = refl
swapped false false x d e apart = refl

pub returns : goal.returns
returns c = λ commands d e plain apart. inr (inl (record {
  left_plain = plain;
  right_plain = plain;
  same = λ r. swapped (bytes_eq r d.reference) (bytes_eq r e.reference) _ (add d) (add e)
      (λ one other. apart (sym ((bytes_eq-Decides r d.reference).0 one) ∙ (bytes_eq-Decides r e.reference).0 other));
}))
