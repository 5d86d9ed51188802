-- The test of an object's keys, and what it says of the object.
use Rattle.std.proofs.Common.{◌≡◌, ℕ, suc, List, [], ◌∷◌, map, Bool, true, false, not, cond, ◌&&◌, ◌||◌, None, Some}
use Rattle.std.proofs.Common.{IsSome, is_some, Contains, Bor, String, Global, string_bytes, bytes_eq, true≢false, refl}
use Rattle.std.proofs.Common.{sym, ap, subst, ◌∙◌, arith}
use Rattle.std.proofs.lemmas.List.Folds.{list_any_at}
use Rattle.std.proofs.lemmas.Slice.Eq.{bytes_eq-Decides}
use Rattle.std.specs.List.{find, list_any, list_all}
use Rattle.std.specs.Map.{keys_of}
use Rattle.serde_json.specs.Data.{Data, null, boolean, number, string, array, object, Members}
use Rattle.serde_json.specs.Find.{as_object, get, get_member}
use Rattle.serde_json.specs.View.{members_view}
use Rattle.serde_json.proofs.Views.{Entry, member_here, member_later}
use Rattle.elasticlunr_job_format.specs.Job.{job_keys, HasOnly}
use Rattle.elasticlunr_job_format.specs.FaultSteps.{HasJobKeys}
use Rattle.elasticlunr_job_format.specs.Keys.{is_job_key}

contains_later : (x k : List ℕ) (xs : List (List ℕ)) → Contains xs k → Contains (x ∷ xs) k
contains_later x k xs h = (suc h.0, omega arith, h.2)

contains_at : (b : Bool) (x k : List ℕ) (xs : List (List ℕ)) → bytes_eq k x ≡ b → (b || list_any (bytes_eq k) xs) ≡ true
    → (list_any (bytes_eq k) xs ≡ true → Contains xs k) → Contains (x ∷ xs) k
contains_at true x k xs is any later = (0, omega arith, sym ((bytes_eq-Decides k x).0 is))
contains_at false x k xs is any later = contains_later x k xs (later any)

contains_from_any : (xs : List (List ℕ)) (k : List ℕ) → list_any (bytes_eq k) xs ≡ true → Contains xs k
contains_from_any [] k any = absurd (true≢false (sym any))
contains_from_any (x ∷ xs) k any = contains_at (bytes_eq k x) x k xs refl any (contains_from_any xs k)

any_from_contains : (xs : List (List ℕ)) (k : List ℕ) → Contains xs k → list_any (bytes_eq k) xs ≡ true
any_from_contains xs k h = list_any_at (bytes_eq k) xs h.0 k h.1 (ap (bytes_eq k) h.2 ∙ (bytes_eq-Decides k k).1 refl)

both : (a b : Bool) → a ≡ true → b ≡ true → (a && b) ≡ true
both a b left right = rw left right

left_of : (a b : Bool) → (a && b) ≡ true → a ≡ true
left_of true b h = refl
left_of false b h = h

right_of : (a b : Bool) → (a && b) ≡ true → b ≡ true
right_of true b h = h
right_of false b h = absurd (true≢false (sym h))

abbrev AllJobKeys : List Entry → Type 0
AllJobKeys es = list_all (λ key. is_job_key (string_bytes key)) (keys_of es) ≡ true

only_at : (b : Bool) (e : Entry) (es : List Entry) (key : List ℕ) → bytes_eq key (string_bytes e.0) ≡ b
    → AllJobKeys (e ∷ es) → IsSome (get_member key (members_view (e ∷ es)))
    → (IsSome (get_member key (members_view es)) → Contains job_keys key) → Contains job_keys key
only_at true e es key is all found later =
    contains_from_any job_keys key (ap is_job_key ((bytes_eq-Decides key (string_bytes e.0)).0 is) ∙ left_of _ _ all)
only_at false e es key is all found later =
    later (subst IsSome (member_later key e es
    (λ same. true≢false (sym ((bytes_eq-Decides key (string_bytes e.0)).1 same) ∙ is))) found)

only_from : (es : List Entry) → AllJobKeys es → (key : List ℕ) → IsSome (get_member key (members_view es))
    → Contains job_keys key
only_from [] all key found = absurd (true≢false (sym found))
only_from (e ∷ es) all key found = only_at (bytes_eq key (string_bytes e.0)) e es key refl all found
    (only_from es (right_of _ _ all) key)

found_here : (e : Entry) (es : List Entry) → IsSome (get_member (string_bytes e.0) (members_view (e ∷ es)))
found_here e es = subst IsSome (sym (member_here (string_bytes e.0) e es refl)) refl

still_found : (b : Bool) (e : Entry) (es : List Entry) (key : List ℕ) → bytes_eq key (string_bytes e.0) ≡ b
    → IsSome (get_member key (members_view es)) → IsSome (get_member key (members_view (e ∷ es)))
still_found true e es key is found = subst IsSome
    (sym (member_here key e es ((bytes_eq-Decides key (string_bytes e.0)).0 is))) refl
still_found false e es key is found = subst IsSome
    (sym (member_later key e es (λ same. true≢false (sym ((bytes_eq-Decides key (string_bytes e.0)).1 same) ∙ is))))
    found

all_from_only : (es : List Entry) → ((key : List ℕ) → IsSome (get_member key (members_view es)) → Contains job_keys key)
    → AllJobKeys es
all_from_only [] only = refl
all_from_only (e ∷ es) only =
    both _ _ (any_from_contains job_keys (string_bytes e.0) (only (string_bytes e.0) (found_here e es)))
    (all_from_only es (λ key found. only key (still_found (bytes_eq key (string_bytes e.0)) e es key refl found)))

object_from : (d : Data) (ms : Members) → Some ms ≡ as_object d → d ≡ object ms
object_from null ms e = cc
object_from (boolean b) ms e = cc
object_from (number n) ms e = cc
object_from (string s) ms e = cc
object_from (array ds) ms e = cc
object_from (object ns) ms e = ap object (cc)

pub has_only : (d : Data) (es : List Entry) → Some (members_view es) ≡ as_object d → AllJobKeys es → HasOnly job_keys d
has_only d es is all key found = only_from es all key
    (subst (λ x. IsSome (get key x)) (object_from d (members_view es) is) found)

pub has_others : (d : Data) (es : List Entry) → Some (members_view es) ≡ as_object d
    → list_all (λ key. is_job_key (string_bytes key)) (keys_of es) ≡ false → HasOnly job_keys d → ⊥
has_others d es is not only =
    true≢false (sym (all_from_only es (λ key found. only key
    (subst (λ x. IsSome (get key x)) (sym (object_from d (members_view es) is)) found))) ∙ not)

-- ---- a key among texts that are borrowed

same_test : (a b : Bool) → (a ≡ true → b ≡ true) → (b ≡ true → a ≡ true) → a ≡ b
same_test true b f g = sym (f refl)
same_test false true f g = g refl
same_test false false f g = refl

either_way : (xs ys : List ℕ) → bytes_eq xs ys ≡ bytes_eq ys xs
either_way xs ys = same_test _ _ (λ e. (bytes_eq-Decides ys xs).1 (sym ((bytes_eq-Decides xs ys).0 e)))
    (λ e. (bytes_eq-Decides xs ys).1 (sym ((bytes_eq-Decides ys xs).0 e)))

pub any_told : (key : List ℕ) (known : List (Bor (List ℕ))) → list_any (λ k. bytes_eq k.now key) known
    ≡ list_any (bytes_eq key) (map (λ k. k.now) known)
any_told key [] = refl
any_told key (k ∷ known) = ap (λ b. b || list_any (λ k. bytes_eq k.now key) known) (either_way k.now key)
    ∙ ap (λ b. bytes_eq key k.now || b) (any_told key known)

-- ---- the first key of an object that is none of a job

not_true : (b : Bool) → not b ≡ true → b ≡ false
not_true true e = sym e
not_true false e = refl

not_false : (b : Bool) → not b ≡ false → b ≡ true
not_false true e = refl
not_false false e = sym e

abbrev is_other : String Global → Bool
is_other key = not (is_job_key (string_bytes key))

-- it is a key of these, and none of a job
abbrev IsOther : List Entry → String Global → Type 0
IsOther es key = IsSome (get_member (string_bytes key) (members_view es)) × (is_job_key (string_bytes key) ≡ false)

other_at : (b : Bool) (e : Entry) (es : List Entry) (key : String Global) → is_other e.0 ≡ b
    → cond b (Some e.0) (find is_other (keys_of es)) ≡ Some key
    → (find is_other (keys_of es) ≡ Some key → IsOther es key) → IsOther (e ∷ es) key
other_at true e es key is found later =
    let same : e.0 ≡ key = cc in (
      subst (λ k. IsSome (get_member (string_bytes k) (members_view (e ∷ es)))) same (found_here e es),
      subst (λ k. is_job_key (string_bytes k) ≡ false) same (not_true _ is),
    )
other_at false e es key is found later =
    let rest : IsOther es key = later found in
    (still_found (bytes_eq (string_bytes key) (string_bytes e.0)) e es (string_bytes key) refl rest.0, rest.1)

other_from : (es : List Entry) (key : String Global) → find is_other (keys_of es) ≡ Some key → IsOther es key
other_from [] key found = cc
other_from (e ∷ es) key found = other_at (is_other e.0) e es key refl found (other_from es key)

none_at : (b : Bool) (e : Entry) (es : List Entry) → is_other e.0 ≡ b → cond b (Some e.0) (find is_other (keys_of es))
    ≡ None → (find is_other (keys_of es) ≡ None → AllJobKeys es) → AllJobKeys (e ∷ es)
none_at true e es is found later = cc
none_at false e es is found later = both _ _ (not_false _ is) (later found)

none_other : (es : List Entry) → find is_other (keys_of es) ≡ None → AllJobKeys es
none_other [] found = refl
none_other (e ∷ es) found = none_at (is_other e.0) e es refl found (none_other es)

-- what was found is a key of the object, and none of a job
pub other_there : (d : Data) (es : List Entry) (key : String Global) → Some (members_view es) ≡ as_object d → Some key
    ≡ find is_other (keys_of es) → IsSome (get (string_bytes key) d) × (¬ Contains job_keys (string_bytes key))
other_there d es key is found =
    let other = other_from es key (sym found) in (
      subst (λ x. IsSome (get (string_bytes key) x)) (sym (object_from d (members_view es) is)) other.0,
      λ among. true≢false (sym (any_from_contains job_keys (string_bytes key) among) ∙ other.1),
    )

-- where none was found, the object has keys of a job alone
pub keys_fit : (d : Data) (es : List Entry) → Some (members_view es) ≡ as_object d → None ≡ find is_other (keys_of es)
    → HasJobKeys d
keys_fit d es is found = record {
  is_object = ap is_some (sym is);
  only = has_only d es is (none_other es (sym found));
}
