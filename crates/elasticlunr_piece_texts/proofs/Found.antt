-- What is found among entries that are in order.
use Rattle.std.proofs.Common.{◌≡◌, Bool, true, false, cond, List, [], ◌∷◌, Option, Some, None, refl, ◌∙◌, ap, Less, Equal, Greater}
use Rattle.std.proofs.lemmas.Cmp.{nat_list_cmp_total}
use Rattle.std.specs.Prelude.{◌&&◌, T}
use Rattle.std.specs.FinMap.{nat_cmp-IsAntisymmetric, slice_cmp-IsAntisymmetric}
use Rattle.std.specs.FinMap.Entries.{below_all, find}
use Rattle.std.specs.Ordering.{is_eq, is_lt, ordering_reverse}
use Rattle.std.specs.declared.cmp.Ordering.{Ordering}
use Rattle.elasticlunr_error.specs.Text.{Bytes, text_cmp}

pub first : (a b : Bool) → T (a && b) → T a
first true b p = tt
first false b p = p

pub second : (a b : Bool) → T (a && b) → T b
second true b p = p
second false b p = absurd p

pub less : (o : Ordering) → T (is_lt o) → o ≡ Less
less Less p = refl
less Equal p = absurd p
less Greater p = absurd p

pub find_below : {X : Type 0} (q : Bytes) (es : List (Bytes × X)) → T (below_all text_cmp q es) → find text_cmp q es ≡ None
find_below q [] h = refl
find_below q (e ∷ es) h = ap (λ r. cond (is_eq r) (Some e.1) (find text_cmp q es)) (less _ (first _ _ h))
    ∙ find_below q es (second _ _ h)

itself_equal : (o : Ordering) → o ≡ ordering_reverse o → o ≡ Equal
itself_equal Less e = cc
itself_equal Equal e = refl
itself_equal Greater e = cc

pub text_itself : (x : Bytes) → text_cmp x x ≡ Equal
text_itself x = itself_equal (text_cmp x x) (nat_list_cmp_total.antisymm x x)

pub exact : (x y : Bytes) → text_cmp x y ≡ Equal → x ≡ y
exact = slice_cmp-IsAntisymmetric nat_cmp-IsAntisymmetric
