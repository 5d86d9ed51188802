-- An input has one answer.
use Rattle.std.proofs.Common.{◌≡◌, ◌≤◌, ◌<◌, ℕ, List, length, All, Any, Option, None, Some, IsSome, is_some, true≢false}
use Rattle.std.proofs.Common.{refl, sym, ap, subst, ◌∙◌, arith}
use Rattle.serde_json.specs.Data.{Data}
use Rattle.elasticlunr_lang.specs.Known.{language_name}
use Rattle.elasticlunr_lang.specs.declared.any.AnyLanguage.{AnyLanguage}
use Rattle.elasticlunr_job_format.specs.Job.{Document, Job, IsJob, IsNoJob}
use Rattle.elasticlunr_job_format.specs.Reading.{reading}
use Rattle.elasticlunr_job.specs.Answer.{HasJob, HasTooMany, FailsAt, Passes, IsMadeIn, IsPrintedLine, IsRefused, IsAnswer, line}
use Rattle.elasticlunr_job.specs.Answer.{refusal_text}
use Rattle.elasticlunr_job.specs.declared.outcome.Outcome.{Outcome}
use Rattle.elasticlunr_job.specs.declared.outcome.Outcome.TheVariants.{Printed, Refused}
use Rattle.elasticlunr_job_format.specs.declared.outcome.Refusal.{Refusal}
use Rattle.elasticlunr_job_format.specs.declared.outcome.Refusal.TheVariants.{NotJson, NotAJob, UnknownLanguage}
use Rattle.elasticlunr_job_format.specs.declared.outcome.Refusal.TheVariants.{DuplicateField, TooManyValues}
use Rattle.elasticlunr_job.proofs.OneJob.{same_some, one_input}
use Rattle.elasticlunr_job.proofs.OneLine.{OneValue, OneDocument, one_line}
use Rattle.elasticlunr_job.proofs.OneLanguage.{same_name}

none_some : {X : Type 0} (o : Option X) → o ≡ None → IsSome o → ⊥
none_some o e h = true≢false (sym h ∙ ap is_some e)

-- some document has more values than there are fields, or none has
not_both : (fields : List (List ℕ)) (docs : List Document) → Any (HasTooMany fields) docs
    → All (λ doc. length doc.values ≤ length fields) docs → ⊥
not_both fields docs many fits =
    let within : length many.1.values ≤ length fields = subst (λ doc. length doc.values ≤ length fields) many.3
    (fits many.0 many.1 many.2) in
    let over : length fields < length many.1.values = many.4 in
    absurd (omega arith)

one_failure : (job : Job) (r s : Refusal) → FailsAt job r → FailsAt job s → r ≡ s
one_failure job NotJson s a b = absurd a
one_failure job NotAJob s a b = absurd a
one_failure job r NotJson a b = absurd b
one_failure job r NotAJob a b = absurd b
one_failure job UnknownLanguage UnknownLanguage a b = refl
one_failure job UnknownLanguage DuplicateField a b = absurd (a b.0)
one_failure job UnknownLanguage TooManyValues a b = absurd (a b.0)
one_failure job DuplicateField UnknownLanguage a b = absurd (b a.0)
one_failure job DuplicateField DuplicateField a b = refl
one_failure job DuplicateField TooManyValues a b = absurd (true≢false (sym b.1 ∙ a.1))
one_failure job TooManyValues UnknownLanguage a b = absurd (b a.0)
one_failure job TooManyValues DuplicateField a b = absurd (true≢false (sym a.1 ∙ b.1))
one_failure job TooManyValues TooManyValues a b = refl

fails_or_passes : (job : Job) (r : Refusal) (language : AnyLanguage) → FailsAt job r → Passes job language → ⊥
fails_or_passes job NotJson language a b = a
fails_or_passes job NotAJob language a b = a
fails_or_passes job UnknownLanguage language a b = a (language, b.named)
fails_or_passes job DuplicateField language a b = true≢false (sym b.distinct ∙ a.1)
fails_or_passes job TooManyValues language a b = not_both job.fields job.docs a.2 b.fits

abbrev NoJob : List ℕ → Type 0
NoJob bytes = (d : Data) × (reading bytes ≡ Some d) × IsNoJob d

abbrev SomeJob : List ℕ → Refusal → Type 0
SomeJob bytes r = (job : Job) × HasJob bytes job × FailsAt job r

-- the three ways to be refused
pub data Way (bytes : List ℕ) (r : Refusal) : Type 0 where
  no_json : r ≡ NotJson → reading bytes ≡ None → Way bytes r
  no_job : r ≡ NotAJob → NoJob bytes → Way bytes r
  some_job : SomeJob bytes r → Way bytes r

way : (bytes : List ℕ) (r : Refusal) → IsRefused bytes r → Way bytes r
way bytes NotJson h = no_json refl h
way bytes NotAJob h = no_job refl h
way bytes UnknownLanguage h = some_job h
way bytes DuplicateField h = some_job h
way bytes TooManyValues h = some_job h

none_and_some : {X : Type 0} (o : Option X) (x : X) → o ≡ None → o ≡ Some x → ⊥
none_and_some o x e f = none_some o e (ap is_some f)

no_job_some_job : (bytes : List ℕ) (job : Job) → NoJob bytes → HasJob bytes job → ⊥
no_job_some_job bytes job n h = n.2 job (subst (λ d. IsJob d job) (same_some (reading bytes) h.0 n.0 h.1 n.1) h.2)

one_way : (bytes : List ℕ) (r s : Refusal) → Way bytes r → Way bytes s → r ≡ s
one_way bytes r s (no_json e h) (no_json f k) = e ∙ sym f
one_way bytes r s (no_json e h) (no_job f k) = absurd (none_and_some (reading bytes) k.0 h k.1)
one_way bytes r s (no_json e h) (some_job k) = absurd (none_and_some (reading bytes) k.1.0 h k.1.1)
one_way bytes r s (no_job e h) (no_json f k) = absurd (none_and_some (reading bytes) h.0 k h.1)
one_way bytes r s (no_job e h) (no_job f k) = e ∙ sym f
one_way bytes r s (no_job e h) (some_job k) = absurd (no_job_some_job bytes k.0 h k.1)
one_way bytes r s (some_job h) (no_json f k) = absurd (none_and_some (reading bytes) h.1.0 k h.1.1)
one_way bytes r s (some_job h) (no_job f k) = absurd (no_job_some_job bytes h.0 k h.1)
one_way bytes r s (some_job h) (some_job k) = one_failure k.0 r s
    (subst (λ job. FailsAt job r) (one_input bytes h.0 k.0 h.1 k.1) h.2) k.2

refused_or_printed : (bytes : List ℕ) (r : Refusal) (job : Job) (language : AnyLanguage) → Way bytes r
    → HasJob bytes job → Passes job language → ⊥
refused_or_printed bytes r job language (no_json e h) has passes = none_and_some (reading bytes) has.0 h has.1
refused_or_printed bytes r job language (no_job e h) has passes = no_job_some_job bytes job h has
refused_or_printed bytes r job language (some_job h) has passes = fails_or_passes job r language
    (subst (λ j. FailsAt j r) (one_input bytes h.0 job h.1 has) h.2) passes

pub one_outcome : (bytes : List ℕ) (o p : Outcome) (t u : List ℕ) → IsAnswer bytes o t → IsAnswer bytes p u → o ≡ p
one_outcome bytes Printed Printed t u a b = refl
one_outcome bytes Printed (Refused r) t u a b =
    absurd (refused_or_printed bytes r a.0 a.2.0 (way bytes r b.0) a.1 a.2.1)
one_outcome bytes (Refused r) Printed t u a b =
    absurd (refused_or_printed bytes r b.0 b.2.0 (way bytes r a.0) b.1 b.2.1)
one_outcome bytes (Refused r) (Refused s) t u a b = ap Refused (one_way bytes r s (way bytes r a.0) (way bytes s b.0))

same_printed : OneValue → OneDocument → (bytes : List ℕ) (t u : List ℕ) → IsAnswer bytes Printed t
    → IsAnswer bytes Printed u → t ≡ u
same_printed values documents bytes t u a b =
    let job : a.0 ≡ b.0 = one_input bytes a.0 b.0 a.1 b.1 in
    let named : language_name a.2.0 ≡ b.0.language = subst (λ j. language_name a.2.0 ≡ j.language) job a.2.1.named in
    let language : a.2.0 ≡ b.2.0 = same_name a.2.0 b.2.0 (named ∙ sym b.2.1.named) in
    one_line values documents b.0 b.2.0 t u
    (subst (λ l. IsMadeIn b.0 l (IsPrintedLine t)) language (subst (λ j. IsMadeIn j a.2.0 (IsPrintedLine t)) job a.2.2)) b.2.2

pub one_text : OneValue → OneDocument → (bytes : List ℕ) (o p : Outcome) (t u : List ℕ) → IsAnswer bytes o t
    → IsAnswer bytes p u → t ≡ u
one_text values documents bytes Printed Printed t u a b = same_printed values documents bytes t u a b
one_text values documents bytes Printed (Refused r) t u a b =
    absurd (refused_or_printed bytes r a.0 a.2.0 (way bytes r b.0) a.1 a.2.1)
one_text values documents bytes (Refused r) Printed t u a b =
    absurd (refused_or_printed bytes r b.0 b.2.0 (way bytes r a.0) b.1 b.2.1)
one_text values documents bytes (Refused r) (Refused s) t u a b = a.1
    ∙ ap (λ q. line (refusal_text q)) (one_way bytes r s (way bytes r a.0) (way bytes s b.0)) ∙ sym b.1
