-- What one more document leaves current.
use Rattle.std.proofs.Common.{◌≡◌, ◌≢◌, ◌⊎◌, ◌↔◌, List, [], ◌∷◌, ◌++◌, Bool, true, false, cond, Option, None, Some, IsSomeAnd}
use Rattle.std.proofs.Common.{bytes_eq, true≢false, inl, inr, refl, sym, ap, subst, ◌∙◌}
use Rattle.std.proofs.lemmas.Slice.Eq.{bytes_eq-Decides}
use Rattle.elasticlunr.specs.Calls.{Call, adding, removing, compacting}
use Rattle.elasticlunr.specs.Current.{current, values_after}
use Rattle.elasticlunr.specs.Text.{Bytes}

after_one_more : (before : Option (List Bytes)) (calls : List Call) (s : Bytes) (values : List Bytes) (r : Bytes)
    → values_after before (calls ++ adding s values ∷ []) r
    ≡ cond (bytes_eq r s) (Some values) (values_after before calls r)
after_one_more before [] s values r = refl
after_one_more before (adding t others ∷ calls) s values r =
    after_one_more (cond (bytes_eq r t) (Some others) before) calls s values r
after_one_more before (removing t ∷ calls) s values r = after_one_more (cond (bytes_eq r t) None before) calls s values r
after_one_more before (compacting ∷ calls) s values r = after_one_more before calls s values r

-- the document that was added last is current
pub last_is_current : (calls : List Call) (s : Bytes) (values : List Bytes) → current (calls ++ adding s values ∷ []) s
    ≡ Some values
last_is_current calls s values = after_one_more None calls s values s
    ∙ ap (λ b. cond b (Some values) (current calls s)) ((bytes_eq-Decides s s).1 refl)

-- and each other reference has what it had
pub one_more_has : (calls : List Call) (s : Bytes) (values : List Bytes) (r : Bytes) (Q : List Bytes → Type 0)
    → IsSomeAnd (current (calls ++ adding s values ∷ []) r) Q ↔ ((r ≡ s) × Q values)
    ⊎ ((r ≢ s) × IsSomeAnd (current calls r) Q)
one_more_has calls s values r Q =
    subst (λ o. IsSomeAnd o Q ↔ ((r ≡ s) × Q values) ⊎ ((r ≢ s) × IsSomeAnd (current calls r) Q))
    (sym (after_one_more None calls s values r)) (by_test (bytes_eq r s) refl) where
      by_test : (b : Bool) → bytes_eq r s ≡ b → IsSomeAnd (cond b (Some values) (current calls r)) Q
          ↔ ((r ≡ s) × Q values) ⊎ ((r ≢ s) × IsSomeAnd (current calls r) Q)
      by_test true is =
          let same = (bytes_eq-Decides r s).0 is in (
            λ has. inl (same, has),
            λ one. elim one [ inl last ↦ last.1 | inr before ↦ absurd (before.0 same) ],
          )
      by_test false is =
          let apart : r ≢ s = λ same. true≢false (sym ((bytes_eq-Decides r s).1 same) ∙ is) in (
            λ has. inr (apart, has),
            λ one. elim one [ inl last ↦ absurd (apart last.0) | inr before ↦ before.1 ],
          )

-- of two documents that were added
pub two_have : (s : Bytes) (text : List Bytes) (t : Bytes) (values : List Bytes) (r : Bytes) (Q : List Bytes → Type 0)
    → IsSomeAnd (current (adding s text ∷ adding t values ∷ []) r) Q ↔ ((r ≡ t) × Q values)
    ⊎ ((r ≡ s) × (r ≢ t) × Q text)
two_have s text t values r Q =
    let last = one_more_has (adding s text ∷ []) t values r Q in
    let first = one_more_has [] s text r Q in (
      λ has. elim (last.0 has) [
        | inl is ↦ inl is
        | inr before ↦ elim (first.0 before.1) [ inl is ↦ inr (is.0, before.0, is.1) | inr none ↦ absurd none.1 ]
      ],
      λ one. elim one [
        | inl is ↦ last.1 (inl is)
        | inr is ↦ last.1 (inr (is.1, first.1 (inl (is.0, is.2))))
      ],
    )
