-- What removals and compactions leave is what a new index with the current documents has.
use Rattle.std.proofs.Common.{◌≡◌, ◌↔◌, ◌⊎◌, inl, inr, List, Bool, true, false, cond, Option, None, Some, bytes_eq}
use Rattle.std.proofs.Common.{refl, sym, ap, ◌∙◌}
use Rattle.std.proofs.lemmas.Slice.Eq.{bytes_eq-Decides}
use Rattle.elasticlunr_error.specs.Text.{Bytes}
use Rattle.elasticlunr_trie.specs.Table.{Table}
use Rattle.elasticlunr_store.specs.Contents.{Contents}
use Rattle.elasticlunr_commands.specs.History.{Document, add, remove, compact, Commands, none, ◌▸◌, now, EndsCompacted}
use Rattle.elasticlunr_commands.specs.History.{AddsEachOnce, IsFresh}
use Rattle.elasticlunr_commands.specs.Standing.{Plan, Counts, Holds}
use Rattle.elasticlunr_print.specs.Printed.{IsValue}
use Rattle.serde_json.specs.Data.{Data}
use Rattle.elasticlunr_commands.proofs.Adding.{same, apart}
use Rattle.elasticlunr_commands.proofs.Agreeing.{Alike, holds_alike}

-- where each reference was added once, the documents that count are the current ones
counted_is_now : (fresh : Commands) (d : Document) → AddsEachOnce fresh → Counts fresh d → now fresh d.reference
    ≡ Some d
counted_is_now none d once counts = absurd counts
counted_is_now (fresh ▸ remove r) d once counts = absurd once
counted_is_now (fresh ▸ compact) d once counts = absurd once
counted_is_now (fresh ▸ add e) d once (inl is) = ap (λ b. cond b (Some e) (now fresh d.reference))
    ((bytes_eq-Decides d.reference e.reference).1 (ap (λ x. x.reference) (sym is))) ∙ ap Some is
counted_is_now (fresh ▸ add e) d once (inr counts) = by_test (bytes_eq d.reference e.reference) refl
    (counted_is_now fresh d once.1 counts) where
      by_test : (b : Bool) → bytes_eq d.reference e.reference ≡ b → now fresh d.reference ≡ Some d
          → cond b (Some e) (now fresh d.reference) ≡ Some d
      by_test true at before = let absent : now fresh d.reference ≡ None = ap (now fresh) (same d.reference e.reference at)
          ∙ once.0 in cc (absent, before)
      by_test false at before = before

now_is_counted : (fresh : Commands) (r : Bytes) (d : Document) → AddsEachOnce fresh → now fresh r ≡ Some d
    → Counts fresh d
now_is_counted none r d once is = cc (is)
now_is_counted (fresh ▸ remove gone) r d once is = absurd once
now_is_counted (fresh ▸ compact) r d once is = absurd once
now_is_counted (fresh ▸ add e) r d once is = by_test (bytes_eq r e.reference)
    (λ before. now_is_counted fresh r d once.1 before) is where
      by_test : (b : Bool) → (now fresh r ≡ Some d → Counts fresh d) → cond b (Some e) (now fresh r) ≡ Some d → (e ≡ d)
          ⊎ Counts fresh d
      by_test true earlier is = inl (cc (is))
      by_test false earlier is = inr (earlier is)

alike_back : (left right : Commands) → Alike left right → Alike right left
alike_back left right alike = record {
  now_same = λ r. sym (alike.now_same r);
  counts =
      λ d. ((alike.counts d).1, (alike.counts d).0);
}

alike_fresh : (commands fresh : Commands) → EndsCompacted commands → IsFresh commands fresh → Alike commands fresh
alike_fresh none fresh ends is = absurd ends
alike_fresh (commands ▸ add d) fresh ends is = absurd ends
alike_fresh (commands ▸ remove r) fresh ends is = absurd ends
alike_fresh (commands ▸ compact) fresh ends is = record {
  now_same = λ r. sym (is.same r);
  counts = λ d. (
    λ current. now_is_counted fresh d.reference d is.once (is.same d.reference ∙ current),
    λ counts. sym (is.same d.reference) ∙ counted_is_now fresh d is.once counts,
  );
}

-- after a compaction, what is held is what the new index holds
pub fresh_holds : (commands fresh : Commands) (plan : Plan) (tables : List Table) (contents : Contents)
    → EndsCompacted commands → IsFresh commands fresh → Holds plan commands tables contents
    ↔ Holds plan fresh tables contents
fresh_holds commands fresh plan tables contents ends is = (
  holds_alike commands fresh (alike_fresh commands fresh ends is) plan tables contents,
  holds_alike fresh commands (alike_back commands fresh (alike_fresh commands fresh ends is)) plan tables contents,
)

pub fresh_value : (commands fresh : Commands) (plan : Plan) (value : Data) → EndsCompacted commands
    → IsFresh commands fresh → IsValue plan commands value ↔ IsValue plan fresh value
fresh_value commands fresh plan value ends is = (
  λ v. record {
    tables = v.tables;
    contents = v.contents;
    holds =
        (fresh_holds commands fresh plan v.tables v.contents ends is).0 v.holds;
    printed = v.printed;
  },
  λ v. record {
    tables = v.tables;
    contents = v.contents;
    holds =
        (fresh_holds commands fresh plan v.tables v.contents ends is).1 v.holds;
    printed = v.printed;
  },
)

-- the removal of a reference without a current document changes nothing
alike_removed : (commands : Commands) (r : Bytes) → now commands r ≡ None → Alike commands (commands ▸ remove r)
alike_removed commands r absent = record {
  now_same = λ q. by_test q (bytes_eq q r) refl;
  counts =
      λ d. (λ counts. counts, λ counts. counts);
} where
  by_test : (q : Bytes) (b : Bool) → bytes_eq q r ≡ b → now commands q ≡ cond b None (now commands q)
  by_test q true e = ap (now commands) (same q r e) ∙ absent
  by_test q false e = refl

pub removed_holds : (commands : Commands) (r : Bytes) (plan : Plan) (tables : List Table) (contents : Contents)
    → now commands r ≡ None → Holds plan commands tables contents ↔ Holds plan (commands ▸ remove r) tables contents
removed_holds commands r plan tables contents absent = (
  holds_alike commands (commands ▸ remove r) (alike_removed commands r absent) plan tables contents,
  holds_alike (commands ▸ remove r) commands
      (alike_back commands (commands ▸ remove r) (alike_removed commands r absent)) plan tables contents,
)

-- each list of commands has a fresh one
without : Bytes → Commands → Commands
without r none = none
without r (fresh ▸ add d) = cond (bytes_eq r d.reference) (without r fresh) (without r fresh ▸ add d)
without r (fresh ▸ remove gone) = without r fresh
without r (fresh ▸ compact) = without r fresh

nobody : Option Document
nobody = None

now_without : (fresh : Commands) (r q : Bytes) → AddsEachOnce fresh → now (without r fresh) q
    ≡ cond (bytes_eq q r) None (now fresh q)
unfolding without nobody
now_without none r q once = by_test (bytes_eq q r) where
  by_test : (b : Bool) → None ≡ cond b None nobody
  by_test true = refl
  by_test false = refl
now_without (fresh ▸ remove gone) r q once = absurd once
now_without (fresh ▸ compact) r q once = absurd once
now_without (fresh ▸ add d) r q once = by_tests (bytes_eq r d.reference) (bytes_eq q d.reference) (bytes_eq q r) refl
    refl refl (now_without fresh r q once.1) where
      by_tests : (a b c : Bool) → bytes_eq r d.reference ≡ a → bytes_eq q d.reference ≡ b → bytes_eq q r ≡ c
          → now (without r fresh) q ≡ cond c None (now fresh q)
          → now (cond a (without r fresh) (without r fresh ▸ add d)) q ≡ cond c None (cond b (Some d) (now fresh q))
      by_tests true true true ea eb ec before = before
      by_tests true true false ea eb ec before = absurd (apart q r ec (same q d.reference eb ∙ sym (same r d.reference ea)))
      by_tests true false true ea eb ec before = before
      by_tests true false false ea eb ec before = before
      by_tests false true true ea eb ec before = absurd (apart r d.reference ea (sym (same q r ec) ∙ same q d.reference eb))
      by_tests false true false ea eb ec before = ap (λ b. cond b (Some d) (now (without r fresh) q)) eb
      by_tests false false c ea eb ec before = ap (λ b. cond b (Some d) (now (without r fresh) q)) eb ∙ before

once_without : (fresh : Commands) (r : Bytes) → AddsEachOnce fresh → AddsEachOnce (without r fresh)
unfolding without
once_without none r once = tt
once_without (fresh ▸ remove gone) r once = absurd once
once_without (fresh ▸ compact) r once = absurd once
once_without (fresh ▸ add d) r once = by_test (bytes_eq r d.reference) (once_without fresh r once.1)
    (now_without fresh r d.reference once.1) where
      still_none : (b : Bool) → cond b None (now fresh d.reference) ≡ None
      still_none true = refl
      still_none false = once.0

      by_test : (b : Bool) → AddsEachOnce (without r fresh) → now (without r fresh) d.reference
          ≡ cond (bytes_eq d.reference r) None (now fresh d.reference)
          → AddsEachOnce (cond b (without r fresh) (without r fresh ▸ add d))
      by_test true before is = before
      by_test false before is = (is ∙ still_none (bytes_eq d.reference r), before)

pub fresh_of : (commands : Commands) → (fresh : Commands) × IsFresh commands fresh
fresh_of none = (none, record { once = tt; same = λ r. refl })
fresh_of (commands ▸ compact) = let before = fresh_of commands in
    (before.0, record { once = before.1.once; same = before.1.same })
fresh_of (commands ▸ remove r) = let before = fresh_of commands in (
  without r before.0,
  record {
    once = once_without before.0 r before.1.once;
    same = λ q. now_without before.0 r q before.1.once
        ∙ ap (cond (bytes_eq q r) None) (before.1.same q);
  },
)
fresh_of (commands ▸ add d) = let before = fresh_of commands in (
  without d.reference before.0 ▸ add d,
  record {
    once = (
      now_without before.0 d.reference d.reference before.1.once
          ∙ ap (λ b. cond b None (now before.0 d.reference)) ((bytes_eq-Decides d.reference d.reference).1 refl),
      once_without before.0 d.reference before.1.once,
    );
    same = λ q. by_test before.0 q (bytes_eq q d.reference) (now_without before.0 d.reference q before.1.once)
        (before.1.same q) refl;
  },
) where
  by_test : (before : Commands) (q : Bytes) (b : Bool) → now (without d.reference before) q
      ≡ cond (bytes_eq q d.reference) None (now before q) → now before q ≡ now commands q → bytes_eq q d.reference ≡ b
      → cond b (Some d) (now (without d.reference before) q) ≡ cond b (Some d) (now commands q)
  by_test before q true is was e = refl
  by_test before q false is was e = is ∙ ap (λ b. cond b None (now before q)) e ∙ was
