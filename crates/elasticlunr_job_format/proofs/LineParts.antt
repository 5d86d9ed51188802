-- Lines that are read in parts.
use Rattle.std.proofs.Common.{◌≡◌, ◌≢◌, ◌<◌, ◌+◌, ◌-◌, ℕ, [], ◌∷◌, ◌++◌, length, take, drop, get_or, Option, None, Some}
use Rattle.std.proofs.Common.{refl, sym, ap, subst, ◌∙◌, append_assoc, append-nil, length-drop, arith}
use Rattle.std.proofs.Math.Seq.{take-append-add}
use Rattle.std.specs.Io.{StartsWith, StopsAt, appended_bytes}
use Rattle.std.specs.Io.KnownBytes.{Consumes, IsAtEnd}
use Rattle.std.proofs.lemmas.List.{get_or_read, take-append-drop, take_more, take_all}
use Rattle.std.proofs.lemmas.List.Elements.{All-append, All-push}
use Rattle.elasticlunr_error.specs.Text.{Bytes}
use Rattle.elasticlunr_job_format.specs.LineRead.{AreAll, HasNoFeed, fed}

-- bytes that are taken one after the other
pub consumes_more : (old mid new : Option Bytes) (done part : Bytes) → Consumes old mid done → Consumes mid new part
    → Consumes old new (done ++ part)
consumes_more None mid new done part first then = tt
consumes_more (Some xs) None new done part first then = absurd first
consumes_more (Some xs) (Some ys) None done part first then = absurd then
consumes_more (Some xs) (Some ys) (Some zs) done part first then = first
    ∙ (ap (λ bs. done ++ bs) then ∙ sym (append_assoc done part zs))

pub consumes_none : (known : Option Bytes) → Consumes known known []
consumes_none None = tt
consumes_none (Some xs) = refl

-- and those that are left then
pub all_more : (old mid : Option Bytes) (done last : Bytes) → Consumes old mid done → AreAll mid last
    → AreAll old (done ++ last)
all_more None mid done last first then = tt
all_more (Some xs) None done last first then = absurd first
all_more (Some xs) (Some ys) done last first then = first ∙ ap (λ bs. done ++ bs) then

pub all_at_end : (old mid : Option Bytes) (done : Bytes) → Consumes old mid done → IsAtEnd mid → AreAll old done
all_at_end None mid done first end = tt
all_at_end (Some xs) None done first end = absurd first
all_at_end (Some xs) (Some ys) done first end = first ∙ (ap (λ bs. done ++ bs) end ∙ append-nil done)

pub joined : (old new : Bytes) → StartsWith new old → old ++ appended_bytes old new ≡ new
joined old new starts = ap (λ bs. bs ++ drop (length old) new) (sym starts) ∙ take-append-drop (length old) new

-- all but the last byte, and the last one
last_apart : (bytes : Bytes) (b : ℕ) → 0 < length bytes → b ≡ get_or bytes (length bytes - 1) 0
    → take (length bytes - 1) bytes ++ b ∷ [] ≡ bytes
last_apart bytes b some is =
    let i = length bytes - 1 in
    let all : take (i + 1) bytes ≡ bytes = take_all (i + 1) bytes (omega arith) in
    ap (λ x. take i bytes ++ x ∷ []) is ∙ (sym (take_more bytes i 0 (omega arith)) ∙ all)

-- what a look at the last byte gave
pub last_read : (bytes : Bytes) (n b : ℕ) → n ≡ length bytes → 0 < length bytes → b ≡ get_or bytes (n - 1) b → b
    ≡ get_or bytes (length bytes - 1) 0
last_read bytes n b all some is = get_or_read bytes (length bytes - 1) b (omega arith)
    (is ∙ ap (λ k. get_or bytes (k - 1) b) all) 0

module _ (old new : Bytes) (none : HasNoFeed old) (starts : StartsWith new old)
    (stops : StopsAt (appended_bytes old new) 10) (more : length old < length new) where
  pub before_last : HasNoFeed (take (length new - 1) new)
  before_last =
      let part = drop (length old) new in
      let n : length new - 1 ≡ length old + (length part - 1) = omega (arith, length-drop (length old) new) in
      let is : take (length new - 1) new ≡ old ++ take (length part - 1) part =
      ap (λ k. take k new) n ∙ (ap (take (length old + (length part - 1))) (sym (joined old new starts))
      ∙ take-append-add old part (length part - 1)) in
      subst HasNoFeed (sym is) (All-append (λ b. b ≢ 10) old (take (length part - 1) part) none stops)

  pub still_none : (b : ℕ) → b ≡ get_or new (length new - 1) 0 → b ≢ 10 → HasNoFeed new
  still_none b is other = subst HasNoFeed (last_apart new b (omega arith) is)
      (All-push (λ x. x ≢ 10) (take (length new - 1) new) b before_last other)

  pub fed_is : (b : ℕ) → b ≡ get_or new (length new - 1) 0 → b ≡ 10 → fed (take (length new - 1) new) ≡ new
  fed_is b is feed = ap (λ x. take (length new - 1) new ++ x ∷ []) (sym feed) ∙ last_apart new b (omega arith) is
