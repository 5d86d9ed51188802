-- What a map has of a reference after values were taken in, each under its reference.
use Rattle.std.proofs.Common.{◌≡◌, ◌<◌, ◌+◌, ℕ, Bool, true, false, cond, List, [], ◌∷◌, length, take, get_or}
use Rattle.std.proofs.Common.{Option, Some, None, refl, sym, ap, subst, ◌∙◌, bytes_eq, Less, Equal, Greater}
use Rattle.std.specs.Prelude.{T, ◌&&◌}
use Rattle.std.specs.Borrow.{Bor}
use Rattle.std.specs.BTreeMap.{BTreeMap, IsOrdered, is_at}
use Rattle.std.specs.FinMap.Entries.{find, is_sorted, below_all}
use Rattle.std.specs.List.{AllByRecursion}
use Rattle.std.specs.List.Sorted.{IsStrictlySortedBy}
use Rattle.std.specs.Map.{keys_of, lookup, update}
use Rattle.std.specs.Ordering.{is_lt, is_eq}
use Rattle.std.specs.declared.cmp.Ordering.{Ordering}
use Rattle.std.proofs.lemmas.Cmp.{nat_list_eq_equiv}
use Rattle.std.proofs.lemmas.List.{get_or_default, map-append, take_more}
use Rattle.std.proofs.lemmas.List.Sums.{fold-append}
use Rattle.std.proofs.lemmas.Map.Text.{is_eq-slice_cmp}
use Rattle.std.proofs.lemmas.Slice.Eq.{bytes_eq-Decides}
use Rattle.elasticlunr_error.specs.Text.{Bytes, text_cmp}
use Rattle.elasticlunr_ranking.specs.Held.{Scores, held, told, under}

first : (a b : Bool) → T (a && b) → T a
first true b p = tt
first false b p = p

second : (a b : Bool) → T (a && b) → T b
second true b p = p
second false b p = absurd p

both : (a b : Bool) → T a → T b → T (a && b)
both true b p q = q
both false b p q = p

not_eq : (o : Ordering) → T (is_lt o) → is_eq o ≡ false
not_eq Less h = refl
not_eq Equal h = absurd h
not_eq Greater h = absurd h

-- a reference that comes before a key is another one
pub apart : (r k : Bytes) → T (is_lt (text_cmp r k)) → bytes_eq k r ≡ false
apart r k h = nat_list_eq_equiv.symm k r ∙ sym (is_eq-slice_cmp r k) ∙ not_eq (text_cmp r k) h

-- what is found of a reference is taken in
abbrev pub put_at : {X V : Type 0} → (step : Bytes → Option X → V → Option X) → Bytes → Option X → Option V → Option X
put_at step r before None = before
put_at step r before (Some v) = step r before v

module _ {X V : Type 0} (step : Bytes → Option X → V → Option X) where
  past : (r : Bytes) (before : Option X) (es : List (Bytes × V)) → T (below_all text_cmp r es)
      → under step r before es ≡ before
  past r before [] h = refl
  past r before (e ∷ es) h = ap (λ b. under step r (cond b (step e.0 before e.1) before) es)
      (apart r e.0 (first _ _ h)) ∙ past r before es (second _ _ h)

  -- where the references rise, each is taken in once
  pub once : (r : Bytes) (before : Option X) (es : List (Bytes × V)) → T (is_sorted text_cmp es)
      → under step r before es ≡ put_at step r before (find text_cmp r es)
  once r before [] h = refl
  once r before (e ∷ es) h = elim (bytes_eq e.0 r) as (λ b. bytes_eq e.0 r ≡ b
      → under step r (cond b (step e.0 before e.1) before) es
      ≡ put_at step r before (cond (is_eq (text_cmp r e.0)) (Some e.1) (find text_cmp r es))) [
        | true ↦ λ is.
            let same : e.0 ≡ r = (bytes_eq-Decides e.0 r).0 is in
            past r (step e.0 before e.1) es (subst (λ k. T (below_all text_cmp k es)) same (first _ _ h))
            ∙ ap (λ k. step k before e.1) same
            ∙ sym (ap (λ b. put_at step r before (cond b (Some e.1) (find text_cmp r es)))
            (is_eq-slice_cmp r e.0 ∙ nat_list_eq_equiv.symm r e.0 ∙ is))
        | false ↦ λ is. once r before es (second _ _ h)
            ∙ sym (ap (λ b. put_at step r before (cond b (Some e.1) (find text_cmp r es)))
            (is_eq-slice_cmp r e.0 ∙ nat_list_eq_equiv.symm r e.0 ∙ is))
      ] refl

  pub next : (es : List (Bor Bytes × V)) (i : ℕ) (e : Bor Bytes × V) → i < length es → e ≡ get_or es i e
      → (r : Bytes) (before : Option X)
      → under step r before (told (take (i + 1) es))
      ≡ cond (bytes_eq e.0.now r) (step e.0.now (under step r before (told (take i es))) e.1)
      (under step r before (told (take i es)))
  next es i e lt is r before =
      ap (λ l. under step r before (told l)) (take_more es i e lt)
      ∙ ap (under step r before) (map-append (λ e. (e.0.now, e.1)) (take i es) (get_or es i e ∷ []))
      ∙ fold-append (λ x e. cond (bytes_eq e.0 r) (step e.0 x e.1) x) before (told (take i es))
      (told (get_or es i e ∷ []))
      ∙ ap (λ e. cond (bytes_eq e.0.now r) (step e.0.now (under step r before (told (take i es))) e.1)
      (under step r before (told (take i es)))) (sym is)

  -- the step of a loop that takes them in: `old` and `new` are what the map has before and after
  pub loop_step : (es : List (Bor Bytes × V)) (i : ℕ) (d : Bor Bytes × V) → i < length es
      → (e : Bor Bytes × V) → e ≡ get_or es i d → (start old new : Bytes → Option X)
      → ((r : Bytes) → old r ≡ under step r (start r) (told (take i es)))
      → ((r : Bytes) → new r ≡ update bytes_eq old e.0.now (step e.0.now (old e.0.now) e.1) r)
      → (r : Bytes) → new r ≡ under step r (start r) (told (take (i + 1) es))
  loop_step es i d lt e at start old new was updates r =
      let is : e ≡ get_or es i e = at ∙ get_or_default es i d e lt in
      updates r ∙ elim (bytes_eq e.0.now r) as (λ b. bytes_eq e.0.now r ≡ b
      → cond b (step e.0.now (old e.0.now) e.1) (old r)
      ≡ cond b (step e.0.now (under step r (start r) (told (take i es))) e.1)
      (under step r (start r) (told (take i es)))) [
        | true ↦ λ same. ap (λ x. step e.0.now x e.1)
            (ap old ((bytes_eq-Decides e.0.now r).0 same) ∙ was r)
        | false ↦ λ _. was r
      ] refl ∙ sym (next es i e lt is r (start r))

below_told : {X : Type 0} (k : Bor Bytes) (es : List (Bor Bytes × X))
    → AllByRecursion (λ y. text_cmp k.now y.now ≡ Less) (keys_of es) → T (below_all text_cmp k.now (told es))
below_told k [] h = tt
below_told k (e ∷ es) h = both _ _ (subst (λ o. T (is_lt o)) (sym h.0) tt) (below_told k es h.1)

sorted_told : {X : Type 0} (es : List (Bor Bytes × X))
    → IsStrictlySortedBy (λ x y. text_cmp x.now y.now) (keys_of es) → T (is_sorted text_cmp (told es))
unfolding IsStrictlySortedBy
sorted_told [] h = tt
sorted_told (e ∷ es) h = both _ _ (below_told e.0 es h.0) (sorted_told es h.1)

find_told : {X : Type 0} (es : List (Bor Bytes × X)) (r : Bytes) → find text_cmp r (told es)
    ≡ lookup (is_at (λ k. text_cmp r k.now)) es
find_told [] r = refl
find_told (e ∷ es) r = ap (cond (is_eq (text_cmp r e.0.now)) (Some e.1)) (find_told es r)

-- the entries of a map, as a list that has what the map has
pub scores_of : {X : Type 0} (m : BTreeMap (Bor Bytes) X) (es : List (Bor Bytes × X)) (f : Bytes → Option X)
    → IsOrdered (λ x y. text_cmp x.now y.now) m → es ≡ m.entries → ((r : Bytes) → held m r ≡ f r)
    → Scores (told es) f
scores_of {X} m es f order same has = subst (λ (l : List (Bor Bytes × X)). Scores (told l) f) (sym same) (record {
  in_order = sorted_told m.entries order;
  are = λ r. find_told m.entries r ∙ has r;
})
