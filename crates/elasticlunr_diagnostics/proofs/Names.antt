-- On the name that was meant.
use Rattle.std.proofs.Common.{◌≡◌, ◌<◌, ◌≤◌, ◌+◌, ◌++◌, ◌∷◌, [], ℕ, suc, List, Option, None, Some, All, arith, refl}
use Rattle.std.proofs.Common.{sym, subst, ap, ◌∙◌, length, take, get_or, le_trans, le_of_lt, lt_trans, lt_of_le_of_lt}
use Rattle.std.proofs.Common.{lt_of_lt_of_le}
use Rattle.std.proofs.lemmas.List.{append_assoc}
use Rattle.std.proofs.Math.Seq.{take-suc}
use Rattle.std.proofs.lemmas.List.Elements.{All-append, All-cons, All-nil, All-push}
use Rattle.elasticlunr_diagnostics.specs.Nearest.{IsNearest}

-- a name is too far from so many edits on: where none was found, and else
abbrev pub TooFar : {Name : Type 0} → (far : Name → ℕ) → ℕ → (best : Option Name) → ℕ → Type 0
TooFar far most None bound = bound ≡ most + 1
TooFar far most (Some found) bound = bound ≡ far found

-- one more name, which is nearer
pub nearer : {Name : Type 0} (far : Name → ℕ) (most : ℕ) (names : List Name) (name : Name) (best : Option Name)
    (bound : ℕ)
    → IsNearest far most names best → TooFar far most best bound → far name < bound
    → IsNearest far most (names ++ name ∷ []) (Some name)
nearer far most names name None bound none is less =
    let near : far name ≤ most = omega (arith, less, is) in
    (names, [], refl, near, (λ k d i. lt_of_le_of_lt near (none k d i)), All-nil _)
nearer far most names name (Some found) bound (before, behind, split, near, first, least) is less =
    let closer : far name < far found = omega (arith, less, is) in
    let all : All (λ other. far name < far other) (before ++ found ∷ behind) =
    All-append (λ other. far name < far other) before (found ∷ behind) (λ k d i. lt_trans closer (first k d i))
    (All-cons (λ other. far name < far other) found behind closer (λ k d i. lt_of_lt_of_le closer (least k d i)))
    in (
      names,
      [],
      refl,
      le_trans (le_of_lt closer) near,
      subst (All (λ other. far name < far other)) (sym split) all,
      All-nil _,
    )

-- one that is not
pub no_nearer : {Name : Type 0} (far : Name → ℕ) (most : ℕ) (names : List Name) (name : Name) (best : Option Name)
    (bound : ℕ)
    → IsNearest far most names best → TooFar far most best bound → bound ≤ far name
    → IsNearest far most (names ++ name ∷ []) best
no_nearer far most names name None bound none is more =
    let beyond : most < far name = omega (arith, more, is) in
    All-push (λ other. most < far other) names name none beyond
no_nearer far most names name (Some found) bound (before, behind, split, near, first, least) is more =
    let as_far : far found ≤ far name = omega (arith, more, is) in
    let longer = ap (λ l. l ++ name ∷ []) split ∙ append_assoc before (found ∷ behind) (name ∷ []) in (
      before,
      behind ++ name ∷ [],
      longer,
      near,
      first,
      All-push (λ other. far found ≤ far other) behind name least
          as_far,
    )

grown_by_one : {Name : Type 0} (names : List Name) (i : ℕ) (d : Name) → i < length names
    → take i names ++ get_or names i d ∷ [] ≡ take (i + 1) names
grown_by_one names i d inside =
    let next : suc i ≡ i + 1 = omega arith in
    sym (take-suc names i d inside) ∙ ap (λ n. take n names) next

-- the next name is nearer, and is what is found
pub next_nearer : {Name : Type 0} (far : Name → ℕ) (most : ℕ) (names : List Name) (i : ℕ) (d : Name)
    (best new : Option Name) (bound edits less : ℕ)
    → i < length names → edits ≡ far (get_or names i d) → IsNearest far most (take i names) best
    → TooFar far most best bound
    → edits < bound → new ≡ Some (get_or names i d) → less ≡ edits → IsNearest far most (take (i + 1) names) new
    × TooFar far most new less
next_nearer far most names i d best new bound edits less inside counted so is closer found left =
    let name = get_or names i d in
    let grown = nearer far most (take i names) name best bound so is (subst (λ n. n < bound) counted closer) in
    let longer : take i names ++ name ∷ [] ≡ take (i + 1) names = grown_by_one names i d inside in (
      subst (λ l. IsNearest far most l new) longer (subst (IsNearest far most (take i names ++ name ∷ [])) (sym found)
          grown),
      subst (λ o. TooFar far most o less) (sym found) (left ∙ counted),
    )

-- the next name is not
pub next_no_nearer : {Name : Type 0} (far : Name → ℕ) (most : ℕ) (names : List Name) (i : ℕ) (d : Name)
    (best new : Option Name) (bound edits same : ℕ)
    → i < length names → edits ≡ far (get_or names i d) → IsNearest far most (take i names) best
    → TooFar far most best bound
    → bound ≤ edits → new ≡ best → same ≡ bound → IsNearest far most (take (i + 1) names) new × TooFar far most new same
next_no_nearer far most names i d best new bound edits same inside counted so is no_closer found left =
    let name = get_or names i d in
    let grown = no_nearer far most (take i names) name best bound so is (subst (λ n. bound ≤ n) counted no_closer) in
    let longer : take i names ++ name ∷ [] ≡ take (i + 1) names = grown_by_one names i d inside in (
      subst (λ l. IsNearest far most l new) longer (subst (IsNearest far most (take i names ++ name ∷ [])) (sym found)
          grown),
      subst (λ o. TooFar far most o same) (sym found) (subst (TooFar far most best) (sym left) is),
    )
