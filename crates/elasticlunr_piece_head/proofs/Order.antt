-- The order of texts, and those that begin with another one.
use Rattle.std.proofs.Common.{◌≡◌, ◌≢◌, ℕ, [], ◌∷◌, ◌++◌, length, drop, refl, sym, ap, ◌∙◌, true}
use Rattle.std.proofs.Common.{Less, Equal, Greater}
use Rattle.std.specs.Prelude.{nat_eq}
use Rattle.std.specs.List.{starts_with}
use Rattle.std.specs.Ordering.{nat_cmp, ordering_reverse, ordering_then}
use Rattle.std.specs.declared.cmp.Ordering.{Ordering}
use Rattle.std.proofs.lemmas.Bool.Decides.{Decides-eqb}
use Rattle.std.proofs.lemmas.Cmp.{nat_cmp_total, nat_list_cmp_total}
use Rattle.std.proofs.lemmas.List.{append-nil}
use Rattle.std.proofs.lemmas.Map.Lookups.{exact_unsigned}
use Rattle.std.proofs.lemmas.Slice.Eq.{starts_is}
use Rattle.elasticlunr_error.specs.Text.{Bytes, text_cmp}

pub reversed : (x y : Bytes) → text_cmp x y ≡ ordering_reverse (text_cmp y x)
reversed x y = nat_list_cmp_total.antisymm x y

pub not_below_itself : (x : Bytes) → text_cmp x x ≢ Less
not_below_itself x is =
    let turned : Less ≡ Greater = sym is ∙ reversed x x ∙ ap ordering_reverse is in cc (turned)

pub not_both : (x y : Bytes) → text_cmp x y ≡ Less → text_cmp y x ≢ Less
not_both x y is other =
    let turned : Less ≡ Greater = sym is ∙ reversed x y ∙ ap ordering_reverse other in cc (turned)

-- what is below a text is below each one that is not below that
pub below_not_below : (x y z : Bytes) → text_cmp x y ≡ Less → text_cmp z y ≢ Less → text_cmp x z ≡ Less
below_not_below x y z below is = by (text_cmp y z) refl
  where
    by : (o : Ordering) → text_cmp y z ≡ o → text_cmp x z ≡ Less
    by Less e = nat_list_cmp_total.trans x y z below e
    by Equal e = reversed x z ∙ ap ordering_reverse (sym (nat_list_cmp_total.congr y z x e) ∙ reversed y x
        ∙ ap ordering_reverse below)
    by Greater e = absurd (is (reversed z y ∙ ap ordering_reverse e))

-- what a text is not below, is below each one that the text is below
pub below_through : (x y z : Bytes) → text_cmp y x ≢ Less → text_cmp y z ≡ Less → text_cmp x z ≡ Less
below_through x y z is below = by (text_cmp x y) refl
  where
    by : (o : Ordering) → text_cmp x y ≡ o → text_cmp x z ≡ Less
    by Less e = nat_list_cmp_total.trans x y z e below
    by Equal e = nat_list_cmp_total.congr x y z e ∙ below
    by Greater e = absurd (is (reversed y x ∙ ap ordering_reverse e))

pub number_itself : (c : ℕ) → nat_cmp c c ≡ Equal
number_itself c = by (nat_cmp c c) refl
  where
    by : (o : Ordering) → nat_cmp c c ≡ o → nat_cmp c c ≡ Equal
    by Less e = let turned : Less ≡ Greater = sym e ∙ nat_cmp_total.antisymm c c ∙ ap ordering_reverse e in cc (turned)
    by Equal e = e
    by Greater e = let turned : Greater ≡ Less = sym e ∙ nat_cmp_total.antisymm c c ∙ ap ordering_reverse e in cc (turned)

-- a text that begins with another one is not below it
not_below_beginning : (x rest : Bytes) → text_cmp (x ++ rest) x ≢ Less
not_below_beginning [] [] is = cc (is)
not_below_beginning [] (c ∷ rest) is = cc (is)
not_below_beginning (c ∷ x) rest is = not_below_beginning x rest
    (sym (ap (λ o. ordering_then o (text_cmp (x ++ rest) x)) (number_itself c)) ∙ is)

-- a text between another one and one that begins with that, begins with it, too
between : (a x rest : Bytes) → text_cmp x a ≢ Less → text_cmp (a ++ rest) x ≢ Less → (tail : Bytes) × (x ≡ a ++ tail)
between [] x rest low high = (x, refl)
between (c ∷ a) [] rest low high = absurd (low refl)
between (c ∷ a) (d ∷ x) rest low high = by (nat_cmp d c) refl (between a x rest)
  where
    by : (o : Ordering) → nat_cmp d c ≡ o
        → (text_cmp x a ≢ Less → text_cmp (a ++ rest) x ≢ Less → (tail : Bytes) × (x ≡ a ++ tail))
        → (tail : Bytes) × (d ∷ x ≡ c ∷ a ++ tail)
    by Less e more = absurd (low (ap (λ o. ordering_then o (text_cmp x a)) e))
    by Greater e more = absurd (high (ap (λ o. ordering_then o (text_cmp (a ++ rest) x))
        (nat_cmp_total.antisymm c d ∙ ap ordering_reverse e)))
    by Equal e more =
        let same : d ≡ c = exact_unsigned d c e in
        let low_rest : text_cmp x a ≢ Less = λ is. low (ap (λ o. ordering_then o (text_cmp x a)) e ∙ is) in
        let high_rest : text_cmp (a ++ rest) x ≢ Less = λ is. high (ap (λ o. ordering_then o (text_cmp (a ++ rest) x))
        (nat_cmp_total.antisymm c d ∙ ap ordering_reverse e) ∙ is) in
        let found = more low_rest high_rest in
        (found.0, ap (λ n. n ∷ x) same ∙ ap (λ ns. c ∷ ns) found.1)

begins : (text beginning : Bytes) → starts_with nat_eq text beginning ≡ true
    → text ≡ beginning ++ drop (length beginning) text
begins text beginning is = (starts_is Decides-eqb text beginning (starts_with nat_eq text beginning) refl).0 is

begins_so : (text beginning rest : Bytes) → text ≡ beginning ++ rest → starts_with nat_eq text beginning ≡ true
begins_so text beginning rest is =
    (starts_is Decides-eqb text beginning (starts_with nat_eq text beginning) refl).1 rest is

pub begins_with_itself : (x : Bytes) → starts_with nat_eq x x ≡ true
begins_with_itself x = begins_so x x [] (sym (append-nil x))

pub not_below_begun : (text beginning : Bytes) → starts_with nat_eq text beginning ≡ true
    → text_cmp text beginning ≢ Less
not_below_begun text beginning is below = not_below_beginning beginning (drop (length beginning) text)
    (ap (λ t. text_cmp t beginning) (sym (begins text beginning is)) ∙ below)

pub between_begins : (a x y : Bytes) → starts_with nat_eq y a ≡ true → text_cmp x a ≢ Less → text_cmp y x ≢ Less
    → starts_with nat_eq x a ≡ true
between_begins a x y is low high =
    let found = between a x (drop (length a) y) low
    (λ below. high (ap (λ t. text_cmp t x) (begins y a is) ∙ below)) in
    begins_so x a found.0 found.1
