-- Tokens of current documents are those that were read of their values.
use Rattle.std.proofs.Common.{◌≡◌, ◌↔◌, ℕ, Bool, true, false, cond, List, [], ◌∷◌, Option, None, Some, IfSome}
use Rattle.std.proofs.Common.{option_and_then, bytes_eq, refl, sym, subst, ◌∙◌}
use Rattle.std.specs.Prelude.{IsSomeAnd, Contains}
use Rattle.std.specs.List.{slice_get, AllZip}
use Rattle.elasticlunr_text.specs.Text.{Text, Bytes}
use Rattle.elasticlunr.specs.Calls.{Call, adding, removing, compacting, IsCommandOf, AreCommandsOf, followed_by}
use Rattle.elasticlunr.specs.Documents.{IsGiven, IsDocument}
use Rattle.elasticlunr.specs.Found.{HasToken}
use Rattle.elasticlunr_commands.specs.History.{Given, Document, Command, Commands, none, ◌▸◌, add, remove, compact, now}
use Rattle.elasticlunr.specs.ReadDocuments.{IsRead, AreRead, HasReadToken}
use Rattle.elasticlunr_commands.specs.Standing.{tokens_at}

-- what is chosen of two is one of them
either : (P : Document → Type 0) (b : Bool) (one other : Option Document) → IfSome one P → IfSome other P
    → IfSome (cond b one other) P
either P true one other is_one is_other = is_one
either P false one other is_one is_other = is_other

module _ (reads : ℕ → Bytes → List Text → Type 0) where
  module _ (fields : List Bytes) (reference_field : Bytes) where
    -- a current document was read
    pub current_read : (commands : Commands) → AreRead reads fields reference_field commands → (r : Bytes)
        → IfSome (now commands r) (IsRead reads fields reference_field)
    current_read none are r = tt
    current_read (commands ▸ add d) are r = either (IsRead reads fields reference_field) (bytes_eq r d.reference)
        (Some d) (now commands r) are.0 (current_read commands are.1 r)
    current_read (commands ▸ remove gone) are r = either (IsRead reads fields reference_field) (bytes_eq r gone) None
        (now commands r) tt (current_read commands are r)
    current_read (commands ▸ compact) are r = current_read commands are r

    tokens_read : (i : ℕ) (token : Text) (given : Given) (o : Option (List Text)) → given.tokens ≡ o
        → IsGiven fields reference_field reads i given
        → IsSomeAnd o (λ ts. Contains ts token) ↔ IsSomeAnd o (λ ts. reads i given.value ts × Contains ts token)
    tokens_read i token given None at is = (λ has. has, λ has. has)
    tokens_read i token given (Some ts) at is =
        let own : IsSomeAnd given.tokens (reads i given.value) = is.of_value (λ holds. let wrong : Some ts
        ≡ None = sym at ∙ is.of_reference holds in (cc)) in
        (λ has. (subst (λ o. IsSomeAnd o (reads i given.value)) at own, has), λ has. has.1)

    given_read : (i : ℕ) (token : Text) (o : Option Given) → IfSome o (IsGiven fields reference_field reads i)
        → IsSomeAnd (option_and_then (λ given. given.tokens) o) (λ ts. Contains ts token)
        ↔ IsSomeAnd o (λ given. IsSomeAnd given.tokens (λ ts. reads i given.value ts × Contains ts token))
    given_read i token None is = (λ has. has, λ has. has)
    given_read i token (Some given) is = tokens_read i token given given.tokens refl is

    document_read : (i : ℕ) (token : Text) (o : Option Document) → IfSome o (IsRead reads fields reference_field)
        → IsSomeAnd (option_and_then (tokens_at i) o) (λ ts. Contains ts token)
        ↔ IsSomeAnd o (λ d. IsSomeAnd (slice_get d.given i)
        (λ given. IsSomeAnd given.tokens (λ ts. reads i given.value ts × Contains ts token)))
    document_read i token None is = (λ has. has, λ has. has)
    document_read i token (Some d) is = given_read i token (slice_get d.given i) (is i)

    pub read_token : (commands : Commands) → AreRead reads fields reference_field commands
        → (i : ℕ) (r : Bytes) (token : Text) → HasToken commands i r token ↔ HasReadToken reads commands i r token
    read_token commands are i r token = document_read i token (now commands r) (current_read commands are r)

    followed_read : (calls : List Call) (list : List Command) (commands : Commands)
        → AllZip (IsCommandOf (IsDocument fields reference_field reads)) calls list
        → AreRead reads fields reference_field commands
        → AreRead reads fields reference_field (followed_by commands list)
    followed_read [] [] commands were are = are
    followed_read [] (next ∷ list) commands were are = absurd were
    followed_read (call ∷ calls) [] commands were are = absurd were
    followed_read (adding r values ∷ calls) (add d ∷ list) commands were are = followed_read calls list
        (commands ▸ add d) were.1 (were.0.each, are)
    followed_read (adding r values ∷ calls) (remove s ∷ list) commands were are = absurd were.0
    followed_read (adding r values ∷ calls) (compact ∷ list) commands were are = absurd were.0
    followed_read (removing r ∷ calls) (add d ∷ list) commands were are = absurd were.0
    followed_read (removing r ∷ calls) (remove s ∷ list) commands were are = followed_read calls list
        (commands ▸ remove s) were.1 are
    followed_read (removing r ∷ calls) (compact ∷ list) commands were are = absurd were.0
    followed_read (compacting ∷ calls) (add d ∷ list) commands were are = absurd were.0
    followed_read (compacting ∷ calls) (remove s ∷ list) commands were are = absurd were.0
    followed_read (compacting ∷ calls) (compact ∷ list) commands were are = followed_read calls list
        (commands ▸ compact) were.1 are

    -- the documents of calls were read
    pub calls_read : (calls : List Call) (commands : Commands) → AreCommandsOf (IsDocument fields reference_field reads)
        calls commands → AreRead reads fields reference_field commands
    calls_read calls commands were = subst (AreRead reads fields reference_field) (sym were.whole)
        (followed_read calls were.list none were.each tt)
