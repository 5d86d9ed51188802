-- What is found by tokens is found by words: of the documents' texts, by the query's text.
use Rattle.std.proofs.Common.{◌≡◌, ◌≢◌, ◌↔◌, ℕ, List, [], ◌∷◌, true≢false, arith, refl, sym, subst, ◌∙◌}
use Rattle.std.specs.Prelude.{Contains}
use Rattle.std.specs.List.{filter}
use Rattle.elasticlunr_text.specs.Text.{Text, Bytes, is_not_empty}
use Rattle.elasticlunr.specs.Found.{HasToken, FindsAny, FindsAll}
use Rattle.elasticlunr.specs.History.{Commands}
use Rattle.elasticlunr.specs.ReadDocuments.{HasReadToken}
use Rattle.elasticlunr_search.specs.Query.{AreTokensOf}
use Rattle.elasticlunr_search.specs.Words.{Asks, Finds}
use Rattle.elasticlunr_search.specs.declared.words.Join.TheVariants.{Any, All}
use Rattle.elasticlunr_search.proofs.Steps.{kept_listed}
use Rattle.elasticlunr_search.proofs.Those.{alike, filled, listed}

-- a text stands among those that are not empty exactly if it is not empty and stands among all
kept : (x : Text) (xs : List Text) → Contains (filter is_not_empty xs) x ↔ ((x ≢ []) × Contains xs x)
kept [] xs = (
  λ c. absurd (true≢false (sym ((listed [] (filter is_not_empty xs)).0 c)
      ∙ kept_listed is_not_empty [] xs)),
  λ h. absurd (h.0 refl),
)
kept (c ∷ x) xs = (
  λ k. (
    filled c x,
    (listed (c ∷ x) xs).1 (sym (kept_listed is_not_empty (c ∷ x) xs)
        ∙ (listed (c ∷ x) (filter is_not_empty xs)).0 k),
  ),
  λ h. (listed (c ∷ x) (filter is_not_empty xs)).1 (kept_listed is_not_empty (c ∷ x) xs ∙ (listed (c ∷ x) xs).0 h.1),
)

module _ (reads : ℕ → Bytes → List Text → Type 0) (i : ℕ) (query : Bytes) (tokens : List Text)
    (are : AreTokensOf reads i query tokens) where
  -- the query asks for its tokens
  pub asks : (token : Text) → Asks reads i query token ↔ Contains tokens token
  asks token = (
    λ a. subst (λ ts. Contains ts token) (sym are.are)
        ((kept token are.all).1 (a.0, subst (λ ts. Contains ts token) (are.no_other a.1.0 a.1.1) a.1.2)),
    λ c. let in_all = (kept token are.all).0 (subst (λ ts. Contains ts token) are.are c) in
        (in_all.0, (are.all, are.read, in_all.1)),
  )

  pub some_token : (ts : List Text) → tokens ≡ ts → ts ≢ [] → (token : Text) × Asks reads i query token
  some_token [] is ne = absurd (ne refl)
  some_token (t ∷ ts) is ne = (t, (asks t).1 (subst (λ us. Contains us t) (sym is) (0, omega arith, refl)))

  pub not_none : (token : Text) → Contains tokens token → tokens ≢ []
  not_none token c e = let none : Contains [] token = subst (λ ts. Contains ts token) e c in absurd
      (omega (arith, none.1))

  -- where documents have the tokens that were read of their values, what is found of the tokens is found of the query
  module _ (commands : Commands) (same : (r : Bytes) (token : Text) → HasToken commands i r token
      ↔ HasReadToken reads commands i r token) (found : List Bytes) where
    pub finds_any_word : FindsAny commands i tokens found → Finds reads Any commands i query found
    finds_any_word finds = alike _ _ found finds (λ r. (
      λ w. (w.0, (asks w.0).1 w.1, (same r w.0).0 w.2.1),
      λ h. (h.0, (asks h.0).0 h.1, (h.1.0, (same r h.0).1 h.2)),
    ))

    pub finds_all_words : FindsAll commands i tokens found → Finds reads All commands i query found
    finds_all_words finds = alike _ _ found finds (λ r. (
      λ w. (some_token tokens refl w.0, λ token a. (same r token).0 (w.1 token ((asks token).0 a)).1),
      λ h. (
        not_none h.0.0 ((asks h.0.0).0 h.0.1),
        λ token c. let a = (asks token).1 c in
            (a.0, (same r token).1 (h.1 token a)),
      ),
    ))
