-- What is found after calls, in an index of one field, by the current texts.
use Rattle.std.proofs.Common.{◌≡◌, ◌≢◌, ◌⊎◌, ◌↔◌, ℕ, zero, suc, List, [], ◌∷◌, ◌++◌, Option, None, Some, IsSomeAnd, refl}
use Rattle.std.proofs.Common.{inl, sym, subst}
use Rattle.std.specs.Prelude.{Contains, IfSome}
use Rattle.std.specs.List.{slice_get}
use Rattle.elasticlunr.specs.Calls.{Call, adding, AreCommandsOf}
use Rattle.elasticlunr.specs.Current.{current, IsReadableAfter}
use Rattle.elasticlunr.specs.Documents.{HoldsReference, IsDocument}
use Rattle.elasticlunr.specs.Found.{AreExactly}
use Rattle.elasticlunr.specs.FoundAfter.{CallsAreRead, IsReadOf}
use Rattle.elasticlunr.specs.History.{Commands}
use Rattle.elasticlunr.specs.Standing.{Plan}
use Rattle.elasticlunr.specs.Text.{Text, Bytes}
use Rattle.elasticlunr_search.specs.AfterCalls.{FindsAfter, IsFoundAfter}
use Rattle.elasticlunr_search.specs.Words.{Asks}
use Rattle.elasticlunr_search.specs.declared.words.Join.TheVariants.{Any}
use Rattle.elasticlunr_laws.proofs.OneMore.{last_is_current, two_have}

-- a text that is equal to a printed one is printed
pub readable_as : (reads : ℕ → Bytes → List Text → Type 0) (plan : Plan) (calls : List Call) (text printed : Bytes) → text
    ≡ printed
    → IsReadableAfter reads plan calls printed → IsReadableAfter reads plan calls text
readable_as reads plan calls text printed same = subst (IsReadableAfter reads plan calls) (sym same)

-- those of which the one holds are those of which the other does
pub those_as : (P Q : Bytes → Type 0) (found : List Bytes) → ((r : Bytes) → P r ↔ Q r) → AreExactly P found
    → AreExactly Q found
those_as P Q found same are = record {
  sorted = are.sorted;
  exact =
      λ r. ((λ there. (same r).0 ((are.exact r).0 there)), (λ holds. (are.exact r).1 ((same r).1 holds)));
}

-- the only field
only_field : (field : Bytes) (i : ℕ) → slice_get (field ∷ []) i ≡ Some field → i ≡ 0
only_field field zero at = refl
only_field field (suc i) at = absurd (cc (at))

-- which does not hold the reference
is_free : (field reference_field : Bytes) → field ≢ reference_field → ¬ HoldsReference (field ∷ []) reference_field 0
is_free field reference_field apart holds = apart (cc (holds))

-- one of the texts that are there has a token, or a token is in one of them
of_token : {X Y : Type 0} (o : Option X) (P : Y → Type 0) (Q : X → Y → Type 0) → (y : Y) × P y
    × IsSomeAnd o (λ x. Q x y) → IsSomeAnd o (λ x. (y : Y) × P y × Q x y)
of_token None P Q is = is.2
of_token (Some x) P Q is = is

of_text : {X Y : Type 0} (o : Option X) (P : Y → Type 0) (Q : X → Y → Type 0) → IsSomeAnd o (λ x. (y : Y) × P y × Q x y)
    → (y : Y) × P y × IsSomeAnd o (λ x. Q x y)
of_text None P Q is = absurd is
of_text (Some x) P Q is = is

some_as : {X : Type 0} (o : Option X) (P Q : X → Type 0) → ((x : X) → P x → Q x) → IsSomeAnd o P → IsSomeAnd o Q
some_as None P Q more is = is
some_as (Some x) P Q more is = more x is

module _ (reads : ℕ → Bytes → List Text → Type 0) (field reference_field : Bytes) (apart : field ≢ reference_field)
    (calls : List Call) where
  -- the reference's current text has a token of the query
  abbrev pub Shares : (query r : Bytes) → Type 0
  Shares query r = IsSomeAnd (current calls r) (λ values. IsSomeAnd (slice_get values 0)
      (λ text. (token : Text) × Asks reads 0 query token × IsReadOf reads 0 text token))

  found_as : (query r : Bytes) → IsFoundAfter reads (field ∷ []) reference_field calls Any 0 query r ↔ Shares query r
  found_as query r = (
    λ is. some_as (current calls r) _ _ (λ values there. of_token (slice_get values 0) (Asks reads 0 query)
        (IsReadOf reads 0) there) (of_token (current calls r) (Asks reads 0 query)
        (λ values token. IsSomeAnd (slice_get values 0) (λ text. IsReadOf reads 0 text token)) (is.0, is.1, is.2.1)),
    λ is. let has = of_text (current calls r) (Asks reads 0 query)
        (λ values token. IsSomeAnd (slice_get values 0) (λ text. IsReadOf reads 0 text token))
        (some_as (current calls r) _ _ (λ values there. of_text (slice_get values 0) (Asks reads 0 query)
        (IsReadOf reads 0) there) is) in (has.0, has.1, (is_free field reference_field apart, has.2)),
  )

  -- those are found whose current text has a token of the query
  pub found_by_texts : (query : Bytes) (found : List Bytes)
      → FindsAfter reads (field ∷ []) reference_field calls Any field query found → AreExactly (Shares query) found
  found_by_texts query found finds =
      those_as (IsFoundAfter reads (field ∷ []) reference_field calls Any 0 query) (Shares query) found (found_as query)
      (subst (λ i. AreExactly (IsFoundAfter reads (field ∷ []) reference_field calls Any i query) found)
      (only_field field finds.0 finds.1) finds.2)

  -- tokens were read of the text that was added last
  pub last_was_read : CallsAreRead reads → (s text : Bytes) (commands : Commands)
      → AreCommandsOf (IsDocument (field ∷ []) reference_field reads) (calls ++ adding s (text ∷ []) ∷ []) commands
      → (tokens : List Text) × reads 0 text tokens
  last_was_read read s text commands were =
      subst (λ o. IfSome o (λ values. IfSome (slice_get values 0) (λ value. (tokens : List Text) × reads 0 value tokens)))
      (last_is_current calls s (text ∷ [])) (read (field ∷ []) reference_field (calls ++ adding s (text ∷ []) ∷ [])
      commands 0 s were (is_free field reference_field apart))

-- of two documents of one text each, those are found whose text shares a token with the query, and of one reference the
-- later one
pub found_of_two : (reads : ℕ → Bytes → List Text → Type 0) (field reference_field : Bytes) → field ≢ reference_field
    → (s text t value : Bytes) (query : Bytes) (found : List Bytes) → FindsAfter reads (field ∷ []) reference_field
    (adding s (text ∷ []) ∷ adding t (value ∷ []) ∷ []) Any field query found
    → AreExactly (λ r. ((r ≡ t) × ((token : Text) × Asks reads 0 query token × IsReadOf reads 0 value token))
    ⊎ ((r ≡ s) × (r ≢ t) × ((token : Text) × Asks reads 0 query token × IsReadOf reads 0 text token))) found
found_of_two reads field reference_field apart s text t value query found finds =
    let calls : List Call = adding s (text ∷ []) ∷ adding t (value ∷ []) ∷ [] in
    those_as (Shares reads field reference_field apart calls query) _ found (λ r. two_have s (text ∷ []) t (value ∷ []) r
    (λ values. IsSomeAnd (slice_get values 0)
    (λ text. (token : Text) × Asks reads 0 query token × IsReadOf reads 0 text token)))
    (found_by_texts reads field reference_field apart calls query found finds)

-- and the later one is found where each reading of its text has a token that the query has
pub later_is_found : (reads : ℕ → Bytes → List Text → Type 0) (field reference_field : Bytes) → field ≢ reference_field
    → (s text t value : Bytes) (query : Bytes) (found : List Bytes) (commands : Commands)
    → AreExactly (λ r. ((r ≡ t) × ((token : Text) × Asks reads 0 query token × IsReadOf reads 0 value token))
    ⊎ ((r ≡ s) × (r ≢ t) × ((token : Text) × Asks reads 0 query token × IsReadOf reads 0 text token))) found
    → CallsAreRead reads → AreCommandsOf (IsDocument (field ∷ []) reference_field reads)
    (adding s (text ∷ []) ∷ adding t (value ∷ []) ∷ []) commands → (token : Text) → Asks reads 0 query token
    → ((tokens : List Text) → reads 0 value tokens → Contains tokens token) → Contains found t
later_is_found reads field reference_field apart s text t value query found commands are read were token asks has =
    let some = last_was_read reads field reference_field apart (adding s (text ∷ []) ∷ []) read t value commands were in
    (are.exact t).1 (inl (refl, (token, asks, (some.0, some.1, has some.0 some.1))))
