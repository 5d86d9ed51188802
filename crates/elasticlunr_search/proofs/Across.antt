-- What is found across several fields is found of the documents there.
use Rattle.std.proofs.Common.{◌≡◌, ◌≢◌, ◌↔◌, ℕ, suc, List, [], ◌∷◌, Some, arith, refl, sym, subst}
use Rattle.std.specs.Prelude.{Contains, IsSome}
use Rattle.std.specs.List.{AllZip, slice_get}
use Rattle.elasticlunr_text.specs.Text.{Text, Bytes}
use Rattle.elasticlunr_store.specs.Contents.{Contents}
use Rattle.elasticlunr_trie.specs.Table.{Table, posting}
use Rattle.elasticlunr.specs.Found.{AreExactly, HasToken, Matches}
use Rattle.elasticlunr.specs.History.{Commands}
use Rattle.elasticlunr.specs.ReadDocuments.{HasReadToken}
use Rattle.elasticlunr.specs.Shape.{ArePartsOf}
use Rattle.elasticlunr.specs.Standing.{Plan}
use Rattle.elasticlunr_search.specs.Query.{AreTokensOf}
use Rattle.elasticlunr_search.specs.Tries.{FindsAcross, HasAmong, IsTrieOf}
use Rattle.elasticlunr_search.specs.Words.{AreNumbersOf, IsFoundAcross}
use Rattle.elasticlunr_search.proofs.Asking.{PostingsTell, table_at}
use Rattle.elasticlunr_search.proofs.Several.{contains_cases}
use Rattle.elasticlunr_search.proofs.Those.{alike}
use Rattle.elasticlunr_search.proofs.Wording.{asks, not_none, some_token}

-- where the table of each field says what its number has, those of several fields say what one of their numbers has
module _ (fields : List Bytes) (tables : List Table) (Has : ℕ → Text → Bytes → Type 0)
    (tell : (i : ℕ) (table : Table) → slice_get tables i ≡ Some table → (token : Text) (r : Bytes)
    → IsSome (posting table token r) ↔ Has i token r) where
  record AreNumbered (names : List Bytes) (searched : List Table) : Type 0 where
    numbers : List ℕ
    are : AreNumbersOf fields names numbers
    tells : (token : Text) (r : Bytes) → HasAmong searched token r ↔ ((i : ℕ) × Contains numbers i × Has i token r)

  numbered : (names : List Bytes) (searched : List Table) → AllZip (IsTrieOf fields tables) names searched
      → AreNumbered names searched
  numbered [] [] all = record {
    numbers = [];
    are = tt;
    tells =
        λ token r. (λ h. absurd (omega (arith, h.1.1)), λ h. absurd (omega (arith, h.1.1)));
  }
  numbered [] (table ∷ searched) all = absurd all
  numbered (name ∷ names) [] all = absurd all
  numbered (name ∷ names) (table ∷ searched) all =
      let first = all.0 in
      let more = numbered names searched all.1 in
      let here = tell first.0 table first.2 in
      record {
        numbers = first.0 ∷ more.numbers;
        are = (first.1, more.are);
        tells = λ token r. (
          λ h. contains_cases table h.0 searched ((i : ℕ) × Contains (first.0 ∷ more.numbers) i × Has i token r)
              (λ is. (
                first.0,
                (0, omega arith, refl),
                (here token r).0
                    (subst (λ u. IsSome (posting u token r)) (sym is) h.2),
              ))
              (λ c. let w = (more.tells token r).0 (h.0, c, h.2) in (
                w.0,
                (suc w.1.0, omega (arith, w.1.1), w.1.2),
                w.2,
              )) h.1,
          λ h. contains_cases first.0 h.0 more.numbers (HasAmong (table ∷ searched) token r)
              (λ is. (table, (0, omega arith, refl), (here token r).1 (subst (λ i. Has i token r) (sym is) h.2)))
              (λ c. let w = (more.tells token r).1 (h.0, c, h.2) in (
                w.0,
                (suc w.1.0, omega (arith, w.1.1), w.1.2),
                w.2,
              )) h.1,
        );
      }

-- and where documents have the tokens that were read of their values, what has each token has each word of the query
module _ (reads : ℕ → Bytes → List Text → Type 0) (query : Bytes) (tokens : List Text) (are : (i : ℕ)
    → AreTokensOf reads i query tokens) (commands : Commands)
    (same : (i : ℕ) (r : Bytes) (token : Text) → HasToken commands i r token ↔ HasReadToken reads commands i r token)
  where
    all_words : (numbers : List ℕ) (searched : List Table)
        → ((token : Text) (r : Bytes) → HasAmong searched token r
        ↔ ((i : ℕ) × Contains numbers i × Matches commands i r token))
        → (r : Bytes) → ((tokens ≢ []) × ((token : Text) → Contains tokens token → HasAmong searched token r))
        ↔ IsFoundAcross reads commands numbers query r
    all_words numbers searched tells r = (
      λ w.
          let some = some_token reads 0 query tokens (are 0) tokens refl w.0 in
          let c = (asks reads 0 query tokens (are 0) some.0).0 some.1 in
          let there = (tells some.0 r).0 (w.1 some.0 c) in (
            (there.0, there.1, (some.0, (asks reads there.0 query tokens (are there.0) some.0).1 c)),
            λ i token at a. let has = (tells token r).0 (w.1 token ((asks reads i query tokens (are i) token).0 a)) in
                (has.0, has.1, (same has.0 r token).0 has.2.1),
          ),
      λ h.
          let i = h.0.0 in
          let its = asks reads i query tokens (are i) in (
            not_none reads i query tokens (are i) h.0.2.0 ((its h.0.2.0).0 h.0.2.1),
            λ token c. let a = (its token).1 c in let has = h.1 i token h.0.1 a in (tells token r).1
                (has.0, has.1, (a.0, (same has.0 r token).1 has.2)),
          ),
    )

-- what is found across the tries that commands left is found of the commands
pub across_commands : PostingsTell → (reads : ℕ → Bytes → List Text → Type 0) (plan : Plan) (commands : Commands)
    (fields : List Bytes) (tables : List Table) (contents : Contents)
    → ArePartsOf plan commands fields tables contents
    → ((i : ℕ) (r : Bytes) (token : Text) → HasToken commands i r token ↔ HasReadToken reads commands i r token)
    → (names : List Bytes) (query : Bytes) (found : List Bytes) → FindsAcross reads fields tables names query found
    → (numbers : List ℕ) × AreNumbersOf plan.fields names numbers
    × AreExactly (IsFoundAcross reads commands numbers query) found
across_commands tell reads plan commands fields tables contents parts same names query found finds =
    let of_names = numbered fields tables (λ i token r. Matches commands i r token)
    (λ i table at token r. tell commands i table token r (table_at commands i _ table at (parts.holds.each i))) names
    finds.searched finds.of_fields in (
      of_names.numbers,
      subst (λ all. AreNumbersOf all names of_names.numbers) parts.fields of_names.are,
      alike _ _ found finds.are (all_words reads query finds.tokens finds.of_query commands same of_names.numbers
          finds.searched of_names.tells),
    )
