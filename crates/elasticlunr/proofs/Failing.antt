-- Which error an answer is, and whether there are contents.
use Rattle.std.proofs.Common.{◌≡◌, ◌↔◌, ◌⊎◌, ◌<◌, ◌≤◌, ◌+◌, ℕ, Bool, true, false, List, [], ◌∷◌, ◌++◌, length, String}
use Rattle.std.proofs.Common.{Global, string_bytes, Option, Some, None, IfSome, Result, Ok, Err, inr, refl, sym, ap}
use Rattle.std.proofs.Common.{subst, ◌∙◌, true≢false, arith}
use Rattle.std.proofs.lemmas.List.{length-append, length-map}
use Rattle.elasticlunr_commands.specs.Fields.{has_name}
use Rattle.elasticlunr_text.specs.Text.{bytes_of}
use Rattle.std.specs.Prelude.{IsNone, IsSome, is_some, IsTrue, OnOk, IfOk, IfErr, IsErrAnd}
use Rattle.elasticlunr_text.specs.IndexError.{IndexError}
use Rattle.elasticlunr_text.specs.IndexError.TheVariants.{DuplicateField, Failed, Memory, TooManyValues}

-- what is there is not none
pub not_none : {X : Type 0} (there : Option X) (x : X) → there ≡ Some x → IsNone there → ⊥
not_none there x is none = true≢false (rw is at none)

pub none_there : {X : Type 0} (there : Option X) → there ≡ None → IsNone there
none_there there is = rw is refl

-- after running out of memory, where there were contents: it had not failed
pub memory_failed : {T X : Type 0} (r : Result T IndexError) (was : Option X) (x : X) → r ≡ Err Memory → was ≡ Some x
    → (r ≡ Err Failed) ↔ IsNone was
memory_failed r was x memory is = (λ failed. absurd (cc (memory, failed)), λ none. absurd (not_none was x is none))

-- and it has failed now
pub memory_fails : {T X : Type 0} (r : Result T IndexError) (now : Option X) → r ≡ Err Memory → now ≡ None → IsNone now
    ↔ ((r ≡ Err Failed) ⊎ (r ≡ Err Memory))
memory_fails r now memory is = (λ _. inr memory, λ _. none_there now is)

pub memory_unchanged : {T Q : Type 0} (r : Result T IndexError) → r ≡ Err Memory → r ≡ Err TooManyValues → Q
memory_unchanged r memory many = absurd (cc (memory, many))

pub memory_too_many : {T F M : Type 0} (r : Result T IndexError) → r ≡ Err Memory → (M → ⊥) → (r ≡ Err TooManyValues)
    ↔ ((F → ⊥) × M)
memory_too_many r memory few = (λ many. absurd (cc (memory, many)), λ both. absurd (few both.1))

pub memory_errors : {T : Type 0} (r : Result T IndexError) → r ≡ Err Memory
    → IfErr r (λ e. (e ≡ Failed) ⊎ ((e ≡ TooManyValues) ⊎ (e ≡ Memory)))
memory_errors r memory = rw memory (inr (inr refl))

pub memory_ok : {T : Type 0} (r : Result T IndexError) (Q : Type 0) → r ≡ Err Memory → OnOk r Q
memory_ok r Q memory = rw memory tt

-- what is so of the one is so of the other
pub of_same : {X : Type 0} (P : X → Type 0) (x y : X) → Some x ≡ Some y → P x → P y
of_same P x y same holds = subst (λ o. IfSome o P) same holds

-- so many values are not too many
pub few_enough : (fields : List (String Global)) (n : ℕ) (values : ℕ) → length fields ≡ n → values ≤ n
    → length (bytes_of fields) < values → ⊥
few_enough fields n values is most more = omega (arith, length-map fields string_bytes, is, most, more)

-- so many are
pub too_many_for : (fields : List (String Global)) (n : ℕ) (values : ℕ) → length fields ≡ n → n < values
    → length (bytes_of fields) < values
too_many_for fields n values is more = omega (arith, length-map fields string_bytes, is, more)

-- an error, as it is passed on
pub passed_on : {T : Type 0} (r : Result T IndexError) (e : IndexError) → IsErrAnd r (λ x. x ≡ e) → r ≡ Err e
passed_on (Ok x) e is = absurd is
passed_on (Err x) e is = ap Err is

-- what was refused there is refused here
pub refused_duplicate : {T U : Type 0} (r : Result T IndexError) (from : Result U IndexError) (e : IndexError)
    (there : Bool) → r ≡ Err e → from ≡ Err e → (from ≡ Err DuplicateField) ↔ IsTrue there → (r ≡ Err DuplicateField)
    ↔ IsTrue there
refused_duplicate r from e there is was duplicate = (
  λ twice. let same : e ≡ DuplicateField = cc (is, twice) in duplicate.0 (was ∙ ap Err same),
  λ h. let again = duplicate.1 h in let same : e ≡ DuplicateField = cc (was, again) in is ∙ ap Err same,
)

pub refused_errors : {T : Type 0} (r : Result T IndexError) (e : IndexError) → r ≡ Err e → (e ≡ DuplicateField)
    ⊎ (e ≡ Memory) → IfErr r (λ x. (x ≡ DuplicateField) ⊎ (x ≡ Memory))
refused_errors r e is one = rw is one

pub refused_ok : {T : Type 0} (r : Result T IndexError) (e : IndexError) (Q : T → Type 0) → r ≡ Err e → IfOk r Q
refused_ok r e Q is = rw is tt

-- a name that was taken was not there
pub was_absent : {T : Type 0} (r : Result T IndexError) (x : T) (there : Bool) → r ≡ Ok x → (r ≡ Err DuplicateField)
    ↔ IsTrue there → there ≡ false
was_absent r x true is duplicate = let twice = duplicate.1 refl in absurd (cc (is, twice))
was_absent r x false is duplicate = refl

-- one more of each
pub one_each_more : {T : Type 0} (names more : List (String Global)) (name : List ℕ) (tokenizers also : List T)
    (tokenizer : T) → bytes_of more ≡ bytes_of names ++ name ∷ [] → also ≡ tokenizers ++ tokenizer ∷ []
    → length tokenizers ≡ length names → length also ≡ length more
one_each_more names more name tokenizers also tokenizer is are many =
    ap length are ∙ length-append tokenizers (tokenizer ∷ [])
    ∙ ap (λ n. n + 1) (many ∙ sym (length-map names string_bytes))
    ∙ sym (length-append (bytes_of names) (name ∷ [])) ∙ sym (ap length is) ∙ length-map more string_bytes

-- a name that was not found was not there
pub not_named : (names at : List (String Global)) (name : List ℕ) (place : Option ℕ) (found : Bool) → at ≡ names → found
    ≡ is_some place → found ≡ false → IsSome place ↔ IsTrue (has_name name (bytes_of at))
    → has_name name (bytes_of names) ≡ false
not_named names at name place found value is absent tells = ap (λ ns. has_name name (bytes_of ns)) (sym value)
    ∙ not_there (has_name name (bytes_of at)) tells
  where
    not_there : (there : Bool) → IsSome place ↔ IsTrue there → there ≡ false
    not_there true same = absurd (true≢false (sym (same.1 refl) ∙ (sym is ∙ absent)))
    not_there false same = refl

-- out of memory refuses no name
pub memory_duplicate : {T : Type 0} (r : Result T IndexError) (there : Bool) → r ≡ Err Memory → there ≡ false
    → (r ≡ Err DuplicateField) ↔ IsTrue there
memory_duplicate r there memory absent = (
  λ twice. absurd (cc (memory, twice)),
  λ h. absurd (true≢false (sym h ∙ absent)),
)
