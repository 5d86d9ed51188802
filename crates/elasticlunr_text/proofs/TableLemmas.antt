-- The cuts of a word by the endings that end in its last letter are those by all endings.
use Rattle.std.proofs.Common.{◌≡◌, ℕ, zero, suc, Bool, true, false, cond, List, [], ◌∷◌, ◌++◌, ⊎_elim, refl, sym, ap}
use Rattle.std.proofs.Common.{◌∙◌, arith, Contains, filter, eq-eqb}
use Rattle.std.specs.List.{list_all}
use Rattle.std.proofs.lemmas.List.Elements.{All-contains, All-contains_itself, All-filter}
use Rattle.std.proofs.lemmas.List.Sums.{AllPass-from_list_all}
use Rattle.elasticlunr_text.specs.Suffixes.{Ending, ends_in, ending_in}
use Rattle.elasticlunr_text.specs.Text.{is_not_empty}
use Rattle.elasticlunr_text.specs.Stems.{IsCut, LastIs, Replaces, DropsEnding, Tries}

-- a text that ends in a character
ends_in-push : (front : List ℕ) (c : ℕ) → ends_in c (front ++ c ∷ []) ≡ true
ends_in-push [] c = eq-eqb c c refl
ends_in-push (d ∷ []) c = eq-eqb c c refl
ends_in-push (d ∷ e ∷ rest) c = ends_in-push (e ∷ rest) c

ends_in-append : (c : ℕ) (xs ys : List ℕ) → is_not_empty ys ≡ true → ends_in c (xs ++ ys) ≡ ends_in c ys
ends_in-append c [] ys some = refl
ends_in-append c (x ∷ []) [] some = absurd (cc)
ends_in-append c (x ∷ []) (y ∷ ys) some = refl
ends_in-append c (x ∷ z ∷ xs) ys some = ends_in-append c (z ∷ xs) ys some

-- what a filter keeps
module _ (test : Ending → Bool) where
  kept-more : (b : Bool) (e x : Ending) (xs : List Ending) → Contains (filter test xs) e
      → Contains (cond b (x ∷ filter test xs) (filter test xs)) e
  kept-more true e x xs (k, within, is) = (suc k, omega (arith, within), is)
  kept-more false e x xs there = there

  kept : (xs : List Ending) (e : Ending) → Contains xs e → test e ≡ true → Contains (filter test xs) e
  kept [] e (k, within, is) passes = absurd (omega (arith, within))
  kept (x ∷ xs) e (zero, within, is) passes =
      let first : test x ≡ true = ap test is ∙ passes in
      rw first (zero, omega arith, is)
  kept (x ∷ xs) e (suc k, within, is) passes = kept-more (test x) e x xs
      (kept xs e (k, omega (arith, within), is) passes)

  kept-back : (xs : List Ending) (e : Ending) → Contains (filter test xs) e → Contains xs e
  kept-back xs e there = All-contains (Contains xs) (filter test xs) e
      (All-filter test (Contains xs) xs (All-contains_itself xs)) there

module _ (T : List Ending) (some : list_all (λ e. is_not_empty e.0) T ≡ true) (c : ℕ) (w : List ℕ) (last : LastIs c w)
  where
    no_suffix : (t x : List ℕ) → [] ≡ t ++ x → is_not_empty x ≡ true → ⊥
    no_suffix [] [] e f = (cc)
    no_suffix [] (d ∷ x) e f = (cc)
    no_suffix (d ∷ t) x e f = (cc)

    ends : (t x y : List ℕ) → Contains T (x, y) → w ≡ t ++ x → ends_in c x ≡ true
    ends t x y there e =
        let has : is_not_empty x ≡ true = All-contains (λ (p : Ending). is_not_empty p.0 ≡ true) T (x, y)
        (AllPass-from_list_all (λ (p : Ending). is_not_empty p.0) T some) there in
        ⊎_elim (λ none. absurd (no_suffix t x (sym none ∙ e) has)) (λ ends. sym (ends_in-append c t x has)
        ∙ ap (ends_in c) (sym e ∙ ends.1) ∙ ends_in-push ends.0 c) last

    cut-there : (s x y : List ℕ) → IsCut (ending_in c T) w s x y → IsCut T w s x y
    cut-there s x y cut = record {
      stem = cut.stem;
      split = cut.split;
      listed = kept-back (λ e. ends_in c e.0) T (x, y) cut.listed;
      shortest = λ t other new stem there e. cut.shortest t other new stem
          (kept (λ p. ends_in c p.0) T (other, new) there (ends t other new there e)) e;
    }

    cut-back : (s x y : List ℕ) → IsCut T w s x y → IsCut (ending_in c T) w s x y
    cut-back s x y cut = record {
      stem = cut.stem;
      split = cut.split;
      listed = kept (λ e. ends_in c e.0) T (x, y) cut.listed (ends s x y cut.listed cut.split);
      shortest = λ t other new stem there e. cut.shortest t other new stem
          (kept-back (λ p. ends_in c p.0) T (other, new) there) e;
    }

    pub tries-replaces : (b : Bool) (v : List ℕ) → Tries b (Replaces (ending_in c T)) w v → Tries b (Replaces T) w v
    tries-replaces true v (s, x, y, cut, m, e) = (s, x, y, cut-there s x y cut, m, e)
    tries-replaces false v (none, same) = (λ u h. none u (h.0, h.1, h.2, cut-back h.0 h.1 h.2 h.3, h.4, h.5), same)

    pub tries-drops : (b : Bool) (v : List ℕ) → Tries b (DropsEnding (ending_in c T)) w v → Tries b (DropsEnding T) w v
    tries-drops true v (s, x, y, cut, left) = (s, x, y, cut-there s x y cut, left)
    tries-drops false v (none, same) = (λ u h. none u (h.0, h.1, h.2, cut-back h.0 h.1 h.2 h.3, h.4), same)
