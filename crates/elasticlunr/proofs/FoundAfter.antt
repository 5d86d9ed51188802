-- The tokens that references have after calls.
use Rattle.std.proofs.Common.{◌≡◌, ◌↔◌, ℕ, List, Option, None, Some, IfSome, option_map, refl, sym, ap, subst, ◌∙◌}
use Rattle.std.proofs.lemmas.Option.{slice_get-map}
use Rattle.std.specs.Prelude.{IsSomeAnd, Contains}
use Rattle.std.specs.List.{slice_get}
use Rattle.elasticlunr_text.specs.Text.{Text, Bytes}
use Rattle.elasticlunr.specs.Calls.{HasOneReading}
use Rattle.elasticlunr.specs.Current.{current}
use Rattle.elasticlunr.specs.Documents.{HoldsReference, IsDocument, IsGiven}
use Rattle.elasticlunr.specs.FoundAfter.{IsReadOf, CallsAreRead, CallsTellTokens}
use Rattle.elasticlunr_commands.specs.History.{Given, Document, now, none}
use Rattle.elasticlunr.proofs.Current.{IsMadeOf, current_made}

module _ (reads : ℕ → Bytes → List Text → Type 0) (one : HasOneReading reads) (fields : List Bytes)
    (reference_field : Bytes) (i : ℕ) (token : Text) where
  -- the token is among those of the given value
  abbrev HasGiven : Given → Type 0
  HasGiven given = IsSomeAnd given.tokens (λ ts. reads i given.value ts × Contains ts token)

  given_tells : (given : Given) (o : Option (List Text)) → given.tokens ≡ o
      → IsGiven fields reference_field reads i given
      → IsSomeAnd o (λ ts. reads i given.value ts × Contains ts token)
      ↔ ((¬ HoldsReference fields reference_field i) × IsReadOf reads i given.value token)
  given_tells given None at is = (
    λ has. absurd has,
    λ has. subst (λ o. IsSomeAnd o (λ ts. reads i given.value ts × Contains ts token)) at
        (absurd (subst (λ o. IsSomeAnd o (reads i given.value)) at (is.of_value has.0))),
  )
  given_tells given (Some ts) at is = (
    λ has. ((λ holds. let wrong : Some ts ≡ None = sym at ∙ is.of_reference holds in cc), (ts, has.0, has.1)),
    λ has. let own : reads i given.value ts = subst (λ o. IsSomeAnd o (reads i given.value)) at (is.of_value has.0) in
        (own, subst (λ us. Contains us token) (one i given.value has.1.0 ts has.1.1 own) has.1.2),
  )

  place_tells : (o : Option Given) → IfSome o (IsGiven fields reference_field reads i)
      → IsSomeAnd o HasGiven ↔ ((¬ HoldsReference fields reference_field i)
      × IsSomeAnd (option_map (λ given. given.value) o) (λ value. IsReadOf reads i value token))
  place_tells None is = (λ has. absurd has, λ has. absurd has.1)
  place_tells (Some given) is = given_tells given given.tokens refl is

  document_tells : (r : Bytes) (values : List Bytes) (document : Document)
      → IsDocument fields reference_field reads r values document
      → IsSomeAnd (slice_get document.given i) HasGiven
      ↔ ((¬ HoldsReference fields reference_field i)
      × IsSomeAnd (slice_get values i) (λ value. IsReadOf reads i value token))
  document_tells r values document is =
      let at : option_map (λ given. given.value) (slice_get document.given i)
      ≡ slice_get values i = sym (slice_get-map (λ given. given.value) document.given i)
      ∙ ap (λ vs. slice_get vs i) is.its_values in
      subst (λ o. IsSomeAnd (slice_get document.given i) HasGiven
      ↔ ((¬ HoldsReference fields reference_field i) × IsSomeAnd o (λ value. IsReadOf reads i value token))) at
      (place_tells (slice_get document.given i) (is.each i))

  made_tells : (r : Bytes) (values : Option (List Bytes)) (document : Option Document)
      → IsMadeOf (IsDocument fields reference_field reads r) values document
      → IsSomeAnd document (λ d. IsSomeAnd (slice_get d.given i) HasGiven)
      ↔ ((¬ HoldsReference fields reference_field i)
      × IsSomeAnd values (λ vs. IsSomeAnd (slice_get vs i) (λ value. IsReadOf reads i value token)))
  unfolding IsMadeOf
  made_tells r None None is = (λ has. absurd has, λ has. absurd has.1)
  made_tells r None (Some d) is = absurd is
  made_tells r (Some values) None is = absurd is
  made_tells r (Some values) (Some d) is = document_tells r values d is

-- where at most one list of tokens is read of a value
pub calls_tell_tokens : (reads : ℕ → Bytes → List Text → Type 0) → HasOneReading reads → CallsTellTokens reads
unfolding IsMadeOf
calls_tell_tokens reads one fields reference_field calls commands i r token were =
    made_tells reads one fields reference_field i token r (current calls r) (now commands r)
    (subst (λ c. IsMadeOf (IsDocument fields reference_field reads r) (current calls r) (now c r)) (sym were.whole)
    (current_made fields reference_field reads r calls were.list were.each None none tt))

module _ (reads : ℕ → Bytes → List Text → Type 0) (fields : List Bytes) (reference_field : Bytes) (i : ℕ)
    (free : ¬ HoldsReference fields reference_field i) where
  some_read : (value : Bytes) (o : Option (List Text)) → IsSomeAnd o (reads i value) → (tokens : List Text)
      × reads i value tokens
  some_read value None is = absurd is
  some_read value (Some tokens) is = (tokens, is)

  place_read : (o : Option Given) → IfSome o (IsGiven fields reference_field reads i)
      → IfSome (option_map (λ given. given.value) o) (λ value. (tokens : List Text) × reads i value tokens)
  place_read None is = tt
  place_read (Some given) is = some_read given.value given.tokens (is.of_value free)

  made_read : (r : Bytes) (values : Option (List Bytes)) (document : Option Document)
      → IsMadeOf (IsDocument fields reference_field reads r) values document
      → IfSome values (λ vs. IfSome (slice_get vs i) (λ value. (tokens : List Text) × reads i value tokens))
  unfolding IsMadeOf
  made_read r None document is = tt
  made_read r (Some values) None is = absurd is
  made_read r (Some values) (Some d) is =
      subst (λ o. IfSome o (λ value. (tokens : List Text) × reads i value tokens))
      (sym (slice_get-map (λ given. given.value) d.given i) ∙ ap (λ vs. slice_get vs i) is.its_values)
      (place_read (slice_get d.given i) (is.each i))

-- the values that are current were read
pub calls_are_read : (reads : ℕ → Bytes → List Text → Type 0) → CallsAreRead reads
unfolding IsMadeOf
calls_are_read reads fields reference_field calls commands i r were free =
    made_read reads fields reference_field i free r (current calls r) (now commands r)
    (subst (λ c. IsMadeOf (IsDocument fields reference_field reads r) (current calls r) (now c r)) (sym were.whole)
    (current_made fields reference_field reads r calls were.list were.each None none tt))
