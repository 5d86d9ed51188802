-- Refusals.
use Rattle.std.proofs.Common.{IfOk, refl, ◌≡◌, Result, Ok, Err, IfErr, IsErrAnd, sym, subst}
use Rattle.elasticlunr_error.specs.declared.error.IndexError.{IndexError}
use Rattle.elasticlunr_error.specs.declared.error.IndexError.TheVariants.{DuplicateField, TooManyValues, BadClass}
use Rattle.elasticlunr_error.specs.declared.error.IndexError.TheVariants.{ForeignValue, Failed, Memory}
use Rattle.elasticlunr_json.specs.Refused.{IsRefused, IsAnswer}

-- a refusal for another reason
pub refused_for : (P Q : Type 0) → (P → Q) → (e : IndexError) → IsRefused P e → IsRefused Q e
refused_for P Q f DuplicateField p = elim p [ ]
refused_for P Q f TooManyValues p = elim p [ ]
refused_for P Q f BadClass p = elim p [ ]
refused_for P Q f ForeignValue p = f p
refused_for P Q f Failed p = elim p [ ]
refused_for P Q f Memory p = tt

pub refused_again : {U : Type 0} (P Q : Type 0) → (P → Q) → (e : IndexError) (r : Result U IndexError)
    → IsErrAnd r (λ x. x ≡ e) → IsRefused P e → IfErr r (IsRefused Q)
refused_again P Q f e (Ok x) h p = tt
refused_again P Q f e (Err x) h p = refused_for P Q f x (subst (IsRefused P) (sym h) p)

-- what is read of a value that something has
pub read_back : {A : Type 0} (Has : A → Type 0) (None_has : Type 0) (x : A) (answer : Result A IndexError)
    → ((y : A) → Has y → y ≡ x) → ¬ None_has → IfOk answer Has → IfErr answer (IsRefused None_has) → IsAnswer x answer
read_back Has None_has x (Ok y) one some ok err = (one y ok, tt)
read_back Has None_has x (Err DuplicateField) one some ok err = elim err [ ]
read_back Has None_has x (Err TooManyValues) one some ok err = elim err [ ]
read_back Has None_has x (Err BadClass) one some ok err = elim err [ ]
read_back Has None_has x (Err ForeignValue) one some ok err = absurd (some err)
read_back Has None_has x (Err Failed) one some ok err = elim err [ ]
read_back Has None_has x (Err Memory) one some ok err = (tt, refl)
