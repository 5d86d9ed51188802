-- On what one value, one key and one document more leave in the notes.
use Rattle.std.proofs.Common.{◌≡◌, ◌∷◌, ◌++◌, ◌+◌, ◌<◌, ◌≤◌, ◌||◌, ℕ, suc, Bool, true, false, List, [], length, map, take}
use Rattle.std.proofs.Common.{get_or, Option, None, min, bytes_eq, not, ◌==◌, zero, set, inl, inr, refl, sym, ap, subst, ◌∙◌, arith}
use Rattle.std.proofs.Common.{if◌then◌else◌, append-nil, append_assoc, cond}
use Rattle.std.proofs.Math.Bool.{or-false, or_assoc}
use Rattle.std.proofs.Math.Nat.{min-eq_left}
use Rattle.std.proofs.lemmas.Bool.{cases_eq, cases_lt}
use Rattle.std.proofs.lemmas.List.{get_or-take, get_or_past, length-take-le, take_more}
use Rattle.std.proofs.lemmas.Option.{unwrap_or-slice_get}
use Rattle.std.proofs.lemmas.Slice.Eq.{bytes_eq-Decides}
use Rattle.elasticlunr_text.proofs.WordSetLemmas.{bytes_eq-sym, is_listed-snoc}
use Rattle.elasticlunr_text.specs.Text.{Bytes, is_listed}
use Rattle.elasticlunr_input.specs.Noted.{all_too_long, has_value, HasSameLimits, HasSameWords, new_keys}
use Rattle.elasticlunr_input.specs.Noted.{too_long_in, with_text}
use Rattle.elasticlunr_input.specs.Warnings.{has_text, unindexed_text, unindexed_warnings}
use Rattle.elasticlunr_input.specs.declared.notes.Notes.{Notes}

-- what stays the same twice
pub same_limits : (old mid new : Notes) → HasSameLimits old mid → HasSameLimits mid new → HasSameLimits old new
same_limits old mid new first next = (
  next.0 ∙ first.0,
  next.1 ∙ first.1,
  next.2 ∙ first.2,
  next.3 ∙ first.3,
)

pub same_words : (old mid new : Notes) → HasSameWords old mid → HasSameWords mid new → HasSameWords old new
same_words old mid new first next = (
  next.0 ∙ first.0,
  next.1 ∙ first.1,
  same_limits old mid new first.2 next.2,
)

-- another value than the next one is the same in the first ones and with the next one
same_value : (values : List Bytes) (i n : ℕ) → i < length values → (n ≡ i → ⊥)
    → get_or (take i values) n [] ≡ get_or (take (i + 1) values) n []
same_value values i n less other =
    let long = length-take-le i values (omega arith) in
    let longer = length-take-le (i + 1) values (omega arith) in
    elim (cases_lt n i) [
      | inl below ↦ get_or-take i values n [] below ∙ sym (get_or-take (i + 1) values n [] (omega arith))
      | inr above ↦ get_or_past (take i values) n [] (omega (arith, long))
          ∙ sym (get_or_past (take (i + 1) values) n [] (omega (arith, longer)))
    ]

-- the fields that have a text, one value later
pub value_more : (old : ℕ → Bool) (mid new : List Bool) (values : List Bytes) (i : ℕ) → i < length values
    → get_or new i false ≡ (get_or mid i false || not (length (get_or values i []) == 0))
    → ((n : ℕ) → (n ≡ i → ⊥) → get_or new n false ≡ get_or mid n false)
    → ((n : ℕ) → get_or mid n false ≡ (old n || has_value (take i values) n))
    → (n : ℕ) → get_or new n false ≡ (old n || has_value (take (i + 1) values) n)
value_more old mid new values i less here others so_far n =
    let is_text = not (length (get_or values i []) == 0) in
    let long = length-take-le i values (omega arith) in
    let none : has_value (take i values) i ≡ false = ap (λ (v : Bytes). not (length v == 0))
    (get_or_past (take i values) i [] (omega (arith, long))) in
    let next : has_value (take (i + 1) values) i ≡ is_text = ap (λ (v : Bytes). not (length v == 0))
    (get_or-take (i + 1) values i [] (omega arith)) in
    let at_next : get_or new i false ≡ (old i || has_value (take (i + 1) values) i) =
    here ∙ (ap (λ b. b || is_text) (so_far i ∙ (ap (λ b. old i || b) none ∙ or-false (old i)))
    ∙ ap (λ b. old i || b) (sym next)) in
    elim (cases_eq n i) [
      | inl same ↦ subst (λ k. get_or new k false ≡ (old k || has_value (take (i + 1) values) k)) (sym same) at_next
      | inr other ↦ others n other ∙ (so_far n
          ∙ ap (λ (v : Bytes). old n || not (length v == 0)) (same_value values i n less other))
    ]

-- a field that is next, or one that stands in the list
pub with_text_past : (flags : List Bool) (field : ℕ) (is_text : Bool) → length flags ≤ field
    → flags ++ is_text ∷ [] ≡ with_text flags field is_text
with_text_past [] field is_text past = refl
with_text_past (flag ∷ flags) zero is_text past = absurd (omega arith)
with_text_past (flag ∷ flags) (suc field) is_text past =
    ap (λ fs. flag ∷ fs) (with_text_past flags field is_text (omega arith))

pub with_text_within : (flags : List Bool) (field : ℕ) (is_text d : Bool) → field < length flags
    → set flags field (get_or flags field d || is_text) ≡ with_text flags field is_text
with_text_within [] field is_text d within = absurd (omega arith)
with_text_within (flag ∷ flags) zero is_text d within = refl
with_text_within (flag ∷ flags) (suc field) is_text d within =
    ap (λ fs. flag ∷ fs) (with_text_within flags field is_text d (omega arith))

-- what is in the list then
pub with_text_here : (flags : List Bool) (field : ℕ) (is_text : Bool) → field ≤ length flags
    → get_or (with_text flags field is_text) field false ≡ (get_or flags field false || is_text)
with_text_here [] zero is_text within = refl
with_text_here [] (suc field) is_text within = absurd (omega arith)
with_text_here (flag ∷ flags) zero is_text within = refl
with_text_here (flag ∷ flags) (suc field) is_text within = with_text_here flags field is_text (omega arith)

pub with_text_others : (flags : List Bool) (field : ℕ) (is_text : Bool) (n : ℕ) → field ≤ length flags
    → (n ≡ field → ⊥) → get_or (with_text flags field is_text) n false ≡ get_or flags n false
with_text_others [] zero is_text zero within other = absurd (other refl)
with_text_others [] zero is_text (suc n) within other = refl
with_text_others [] (suc field) is_text n within other = absurd (omega arith)
with_text_others (flag ∷ flags) zero is_text zero within other = absurd (other refl)
with_text_others (flag ∷ flags) zero is_text (suc n) within other = refl
with_text_others (flag ∷ flags) (suc field) is_text zero within other = refl
with_text_others (flag ∷ flags) (suc field) is_text (suc n) within other =
    with_text_others flags field is_text n (omega arith) (λ same. other (ap suc same))

pub with_text_long : (flags : List Bool) (field : ℕ) (is_text : Bool) → field ≤ length flags
    → field + 1 ≤ length (with_text flags field is_text)
with_text_long [] field is_text within = omega arith
with_text_long (flag ∷ flags) zero is_text within = omega arith
with_text_long (flag ∷ flags) (suc field) is_text within =
    let rest = with_text_long flags field is_text (omega arith) in omega (arith, rest)

-- what stands at the number of a field, as clauses read it
pub text_at : (notes : Notes) (n : ℕ) → has_text notes n ≡ get_or notes.has_text.items n false
text_at notes n = unwrap_or-slice_get notes.has_text.items n false

-- the words that are too long, with one value more
too_long_more : (longest : Option ℕ) (is_stored : ℕ → Bool) (values : List Bytes) (value : Bytes)
    → all_too_long longest is_stored (values ++ value ∷ []) ≡ all_too_long longest is_stored values
    + too_long_in longest (is_stored (length values)) value
too_long_more longest is_stored [] value = omega arith
too_long_more longest is_stored (first ∷ values) value =
    let rest = too_long_more longest (λ number. is_stored (suc number)) values value in omega (arith, rest)

pub too_long_step : (longest : Option ℕ) (is_stored : ℕ → Bool) (values : List Bytes) (i : ℕ) → i < length values
    → all_too_long longest is_stored (take (i + 1) values) ≡ all_too_long longest is_stored (take i values)
    + too_long_in longest (is_stored i) (get_or values i [])
too_long_step longest is_stored values i less =
    let so_far = all_too_long longest is_stored (take i values) in
    ap (all_too_long longest is_stored) (take_more values i [] less)
    ∙ (too_long_more longest is_stored (take i values) (get_or values i [])
    ∙ ap (λ n. so_far + too_long_in longest (is_stored n) (get_or values i []))
    (length-take-le i values (omega arith)))

-- at most so many, in two steps
pub capped : (a b c m : ℕ) → min (min (a + b) m + c) m ≡ min (a + (b + c)) m
capped a b c m = omega arith

-- no word is too long where a word may have any length, or the field is only stored
pub none_too_long : (is_stored : Bool) (text : Bytes) → too_long_in None is_stored text ≡ 0
none_too_long true text = refl
none_too_long false text = refl

pub none_stored : (longest : Option ℕ) (is_stored : Bool) (text : Bytes) → is_stored ≡ true
    → too_long_in longest is_stored text ≡ 0
none_stored longest is_stored text is = ap (λ b. too_long_in longest b text) is

pub none_more : (n count m : ℕ) → n ≤ m → count ≡ 0 → n ≡ min (n + count) m
none_more n count m within none =
    sym (ap (λ k. min k m) (let same : n + count ≡ n = omega (arith, none) in same) ∙ min-eq_left within)

-- a key that is known is known once more
known_again : (is_known : Bytes → Bool) (key k : Bytes) → is_known key ≡ true → (is_known k || bytes_eq key k) ≡ is_known k
known_again is_known key k known = by_test (bytes_eq key k) refl
  where
    by_test : (b : Bool) → bytes_eq key k ≡ b → (is_known k || b) ≡ is_known k
    by_test true is = ap (λ b. b || true) (sym (ap is_known ((bytes_eq-Decides key k).0 is)) ∙ known)
        ∙ sym (sym (ap is_known ((bytes_eq-Decides key k).0 is)) ∙ known)
    by_test false is = or-false (is_known k)

-- the new keys depend on what is known of each key
pub same_new_keys : (p q : Bytes → Bool) (keys : List Bytes) → ((k : Bytes) → p k ≡ q k) → new_keys p keys ≡ new_keys q keys
same_new_keys p q [] same = refl
same_new_keys p q (key ∷ keys) same =
    let more = new_keys (λ k. p k || bytes_eq key k) keys in
    ap (λ b. if b then new_keys p keys else key ∷ more) (same key)
    ∙ (ap (λ ks. if q key then ks else key ∷ more) (same_new_keys p q keys same)
    ∙ ap (λ ks. if q key then new_keys q keys else key ∷ ks)
    (same_new_keys (λ k. p k || bytes_eq key k) (λ k. q k || bytes_eq key k) keys
    (λ k. ap (λ b. b || bytes_eq key k) (same k))))

-- the warnings of a key, and of those after it
pub key_more : (p q : Bytes → Bool) (number : ℕ) (reference key : Bytes) (keys earlier : List Bytes)
    → ((k : Bytes) → q k ≡ (p k || bytes_eq key k))
    → (earlier ++ unindexed_warnings (p key) number reference key) ++ map (unindexed_text number reference) (new_keys q keys)
    ≡ earlier ++ map (unindexed_text number reference) (new_keys p (key ∷ keys))
key_more p q number reference key keys earlier same = by_test (p key) refl
  where
    text : Bytes → Bytes
    text k = unindexed_text number reference k

    by_test : (b : Bool) → p key ≡ b
        → (earlier ++ unindexed_warnings b number reference key) ++ map (unindexed_text number reference) (new_keys q keys)
        ≡ earlier ++ map (unindexed_text number reference)
        (if b then new_keys p keys else key ∷ new_keys (λ k. p k || bytes_eq key k) keys)
    by_test true known = ap (λ ws. ws ++ map (unindexed_text number reference) (new_keys q keys)) (append-nil earlier)
        ∙ ap (λ ks. earlier ++ map (unindexed_text number reference) ks)
        (same_new_keys q p keys (λ k. same k ∙ known_again p key k known))
    by_test false unknown = append_assoc earlier (unindexed_text number reference key ∷ [])
        (map (unindexed_text number reference) (new_keys q keys))
        ∙ ap (λ ks. earlier ++ unindexed_text number reference key ∷ map (unindexed_text number reference) ks)
        (same_new_keys q (λ k. p k || bytes_eq key k) keys same)

-- a key is known, or among those that are left
pub known_more : (p q : Bytes → Bool) (key : Bytes) (keys : List Bytes) (k : Bytes) → q k ≡ (p k || bytes_eq key k)
    → (q k || is_listed k keys) ≡ (p k || is_listed k (key ∷ keys))
known_more p q key keys k same =
    ap (λ b. b || is_listed k keys) same ∙ (or_assoc (p k) (bytes_eq key k) (is_listed k keys)
    ∙ ap (λ b. p k || (b || is_listed k keys)) (bytes_eq-sym key k))

-- one key more is listed
pub listed_more : (key name : Bytes) (keys : List Bytes)
    → cond (bytes_eq name key) true (is_listed key keys) ≡ is_listed key (keys ++ name ∷ [])
listed_more key name keys = ap (λ b. cond b true (is_listed key keys)) (bytes_eq-sym name key)
    ∙ sym (is_listed-snoc key keys name)
