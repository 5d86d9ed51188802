-- Names with a number.
use Rattle.std.proofs.Common.{◌≡◌, ◌≢◌, ◌<◌, ℕ, Bool, true, false, true≢false, zero, suc, ◌==◌, ◌++◌, codes, sym, subst, ap, ◌∙◌}
use Rattle.std.proofs.Common.{Option, Some, None, arith}
use Rattle.std.specs.Prelude.{IfNone}
use Rattle.std.specs.List.{list_all}
use Rattle.std.proofs.lemmas.List.{append_cancel_left, append_cancel_right}
use Rattle.elasticlunr_publish.specs.Names.{Bytes, is_digit, IsTemporary, numbered}

pub to_none : {A : Type 0} (o : Option A) {P : Type 0} → P → IfNone o P
to_none None p = p
to_none (Some x) p = tt

pub none_map : {A : Type 0} (o : Option A) {P Q : Type 0} → (P → Q) → IfNone o P → IfNone o Q
none_map None f p = f p
none_map (Some x) f p = tt

pub no_point : (base name rest point : Bytes) → point ≡ codes "." → name ≡ base ++ rest
    → ((more : Bytes) → rest ≢ point ++ more)
    → (number : Bytes) → name ≢ numbered base number
no_point base name rest point p is none number e = none (number ++ codes ".new")
    (append_cancel_left base rest _ (sym is ∙ e) ∙ ap (λ q. q ++ (number ++ codes ".new")) (sym p))

pub no_end : (base name rest point ended end : Bytes) → point ≡ codes "." → end ≡ codes ".new"
    → name ≡ base ++ rest → rest ≡ point ++ ended
    → ((more : Bytes) → ended ≢ more ++ end)
    → (number : Bytes) → name ≢ numbered base number
no_end base name rest point ended end p q is pointed none number e = none number
    (append_cancel_left (codes ".") ended _ (ap (λ it. it ++ ended) (sym p) ∙ (sym pointed
    ∙ append_cancel_left base rest _ (sym is ∙ e))) ∙ ap (λ it. number ++ it) (sym q))

pub one_number : (base number other : Bytes) → numbered base number ≡ numbered base other
    → number ≡ other
one_number base number other e = append_cancel_right number other (codes ".new")
    (append_cancel_left (codes ".") _ _ (append_cancel_left base _ _ e))

pub some_bytes : (empty : Bool) (n : ℕ) → empty ≡ false → empty ≡ (n == 0) → 0 < n
some_bytes empty zero e f = absurd (true≢false (sym f ∙ e))
some_bytes empty (suc n) e f = omega arith

pub only_digits : (base name number : Bytes) → name ≡ numbered base number
    → IsTemporary base name → list_all is_digit number ≡ true
only_digits base name number is t = subst (λ ds. list_all is_digit ds ≡ true)
    (one_number base t.digits number (sym t.spelt ∙ is)) t.decimal
