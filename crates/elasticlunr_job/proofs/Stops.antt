-- What the exit of a `?` returns.
use Rattle.std.proofs.Common.{◌≡◌, ◌⊎◌, ◌≢◌, All, false, inl, inr, arith, Result, Ok, Err, ◌∙◌, ap}
use Rattle.std.specs.Prelude.{IfOk, OnOk}
use Rattle.std.specs.Result.{IfErr, IsErrAnd}
use Rattle.std.proofs.lemmas.Result.{err_from_is_err_and}
use Rattle.elasticlunr_text.specs.Text.{Bytes}
use Rattle.elasticlunr_lang.specs.Known.{all_languages, language_name}
use Rattle.elasticlunr_lang.specs.declared.any.AnyLanguage.{AnyLanguage}
use Rattle.elasticlunr_lang.specs.declared.any.AnyLanguage.TheVariants.{English, Arabic, Danish, Dutch, Finnish, French}
use Rattle.elasticlunr_lang.specs.declared.any.AnyLanguage.TheVariants.{German, Italian, Korean, Norwegian, Portuguese}
use Rattle.elasticlunr_lang.specs.declared.any.AnyLanguage.TheVariants.{Romanian, Russian, Spanish, Swedish, Turkish}
use Rattle.elasticlunr.specs.Fields.{all_differ}
use Rattle.elasticlunr_job.specs.Answer.{FailsAt, NamesLanguage}
use Rattle.elasticlunr_job_format.specs.Job.{Job}
use Rattle.elasticlunr_job_format.specs.declared.outcome.Refusal.{Refusal}
use Rattle.elasticlunr_job_format.specs.declared.outcome.JobError.{JobError}
use Rattle.elasticlunr_text.specs.IndexError.{IndexError}
use Rattle.elasticlunr_text.specs.IndexError.TheVariants as index
use Rattle.elasticlunr_job_format.specs.declared.outcome.Refusal.TheVariants.{TooManyValues}
use Rattle.elasticlunr_job_format.specs.declared.outcome.JobError.TheVariants.{Memory}
use Rattle.elasticlunr_job_format.specs.IndexJobError.{job_error_of}
use Rattle.elasticlunr_job_format.specs.JobError.{StopsOnlyBy, StopsWithReason}

-- the exit of a call that finds too many values, where the index works still
pub later_too_many : {T : Type 0} (r : Result T JobError) (Fails Later Q : Type 0) (e : IndexError)
    → IsErrAnd r (λ y. y ≡ job_error_of e) → (¬ Fails → ¬ Later) → (e ≡ index.Failed → Later)
    → (e ≡ index.TooManyValues → Q)
    → (e ≡ index.Failed) ⊎ ((e ≡ index.TooManyValues) ⊎ (e ≡ index.Memory))
    → IfErr r (λ stop. ¬ Fails → StopsOnlyBy TooManyValues Q stop)
later_too_many r Fails Later Q e is still fails many h =
    let p = err_from_is_err_and r is in
    rw (p.1) (λ works. elim h [
      | inl f ↦ absurd (still works (fails f))
      | inr t ↦
          elim t [ inl over ↦ inr (p.2 ∙ ap job_error_of over, many over) | inr m ↦ inl (p.2 ∙ ap job_error_of m) ]
    ])

pub StopsWithReason-by : (reason : Refusal → Type 0) (refusal : Refusal) (P : Type 0) (stop : JobError)
    → StopsOnlyBy refusal P stop → (P → reason refusal) → StopsWithReason reason stop
StopsWithReason-by reason refusal P stop h f = elim h [ inl m ↦ rw m tt | inr p ↦ rw (p.0) (f p.1) ]

-- the exit of a call that stops for out of memory alone
pub memory_exit : {T : Type 0} (r : Result T JobError) (reason : Refusal → Type 0) (e : JobError)
    → IsErrAnd r (λ y. y ≡ e) → e ≡ Memory → IfErr r (StopsWithReason reason)
memory_exit r reason e is m =
    let p = err_from_is_err_and r is in
    rw (p.1, p.2, m) tt

-- the exit of a call that stops for one refusal
pub refusal_exit : {T : Type 0} (r : Result T JobError) (reason : Refusal → Type 0) (refusal : Refusal) (P : Type 0)
    (e : JobError) → IsErrAnd r (λ y. y ≡ e) → StopsOnlyBy refusal P e → (P → reason refusal)
    → IfErr r (StopsWithReason reason)
refusal_exit r reason refusal P e is h f =
    let p = err_from_is_err_and r is in
    rw (p.1, p.2) (StopsWithReason-by reason refusal P e h f)

-- the exit of the fields, where a name may stand twice
pub fields_exit : {T : Type 0} (r : Result T JobError) (job : Job) (e : IndexError)
    → IsErrAnd r (λ y. y ≡ job_error_of e) → NamesLanguage job.language
    → (e ≡ index.DuplicateField → all_differ job.fields ≡ false) → (e ≡ index.DuplicateField) ⊎ (e ≡ index.Memory)
    → IfErr r (StopsWithReason (FailsAt job))
fields_exit r job e is named twice h =
    let p = err_from_is_err_and r is in
    rw (p.1, p.2) (elim h [ inl d ↦ rw d (named, twice d) | inr m ↦ rw m tt ])

-- no language has the name
pub no_language : (name : Bytes) → All (λ language. language_name language ≢ name) all_languages → ¬ NamesLanguage name
no_language name none named = at named.0 named.1 where
  at : (language : AnyLanguage) → language_name language ≢ name
  at English e = none 0 English (omega arith) e
  at Arabic e = none 1 Arabic (omega arith) e
  at Danish e = none 2 Danish (omega arith) e
  at Dutch e = none 3 Dutch (omega arith) e
  at Finnish e = none 4 Finnish (omega arith) e
  at French e = none 5 French (omega arith) e
  at German e = none 6 German (omega arith) e
  at Italian e = none 7 Italian (omega arith) e
  at Korean e = none 8 Korean (omega arith) e
  at Norwegian e = none 9 Norwegian (omega arith) e
  at Portuguese e = none 10 Portuguese (omega arith) e
  at Romanian e = none 11 Romanian (omega arith) e
  at Russian e = none 12 Russian (omega arith) e
  at Spanish e = none 13 Spanish (omega arith) e
  at Swedish e = none 14 Swedish (omega arith) e
  at Turkish e = none 15 Turkish (omega arith) e

-- what an answer shows
pub ok_more : {T E : Type 0} (r : Result T E) (P Q : T → Type 0) → ((x : T) → P x → Q x) → IfOk r P → IfOk r Q
ok_more (Ok x) P Q f h = f x h
ok_more (Err e) P Q f h = h

pub ok_always : {T E : Type 0} (r : Result T E) {F : Type 0} → F → OnOk r F
ok_always (Ok x) f = f
ok_always (Err e) f = tt

pub ok_both : {T E : Type 0} (r : Result T E) (F : Type 0) (P Q : T → Type 0) → ((x : T) → F → P x → Q x) → OnOk r F
    → IfOk r P → IfOk r Q
ok_both (Ok x) F P Q f fits h = f x fits h
ok_both (Err e) F P Q f fits h = h

pub ok_two : {T E : Type 0} (r : Result T E) (P Q R : T → Type 0) → ((x : T) → P x → Q x → R x) → IfOk r P → IfOk r Q
    → IfOk r R
ok_two (Ok x) P Q R f p q = f x p q
ok_two (Err e) P Q R f p q = p

pub err_more : {T E : Type 0} (r : Result T E) (P Q : E → Type 0) → ((e : E) → P e → Q e) → IfErr r P → IfErr r Q
err_more (Ok x) P Q f h = h
err_more (Err e) P Q f h = f e h
