-- Lists of numbers and frequencies tell the postings.
use Rattle.std.proofs.Common.{◌≡◌, inl, inr, ◌≤◌, ◌+◌, ◌-◌, ℕ, suc, Bool, true, false, List, [], ◌∷◌, get_or, refl, sym, ap}
use Rattle.std.proofs.Common.{subst, ◌∙◌, arith, bytes_eq, if◌then◌else◌, Option, Some, None, true≢false}
use Rattle.std.specs.Prelude.{IsSome}
use Rattle.std.proofs.lemmas.Slice.Eq.{bytes_eq-Decides}
use Rattle.serde_json.specs.Data.{array, string, Items, no_items, item}
use Rattle.elasticlunr_error.specs.Text.{Bytes, is_listed}
use Rattle.elasticlunr_json.specs.Maps.{count, keyed}
use Rattle.elasticlunr_json.proofs.Keyed.{same_keyed}
use Rattle.elasticlunr_store.specs.Contents.{Contents, TextMap, length_at}
use Rattle.elasticlunr_trie.specs.Table.{Table}
use Rattle.elasticlunr_pieces.specs.Entries.{documents_items, field_values, number_from, number_of, numbered}
use Rattle.elasticlunr_pieces.specs.Entries.{token_members, with_number}
use Rattle.elasticlunr_pieces.specs.Head.{all_lengths, field_lengths, length_value}
use Rattle.elasticlunr_pieces.specs.Telling.{HasNumbers}
use Rattle.elasticlunr_pieces.proofs.Listed.{either}

-- the name of a number
numbered_name : (names : List Bytes) (r : Bytes) (k n : ℕ) → number_from k names r ≡ Some n
    → (k ≤ n) × (get_or names (n - k) [] ≡ r)
numbered_name [] r k n e = absurd (cc)
numbered_name (q ∷ qs) r k n e = by (bytes_eq q r) refl (numbered_name qs r (suc k) n) e
  where
    by : (b : Bool) → bytes_eq q r ≡ b
        → (number_from (suc k) qs r ≡ Some n → (suc k ≤ n) × (get_or qs (n - suc k) [] ≡ r))
        → (if b then Some k else number_from (suc k) qs r) ≡ Some n
        → (k ≤ n) × (get_or (q ∷ qs) (n - k) [] ≡ r)
    by true same later is =
        let here : k ≡ n = cc in
        let none : n - k ≡ 0 = omega (arith, here) in
        (omega (arith, here), ap (λ m. get_or (q ∷ qs) m []) none ∙ (bytes_eq-Decides q r).0 same)
    by false same later is =
        let more = later is in
        let low = more.0 in
        let next : n - k ≡ suc (n - suc k) = omega (arith, low) in
        (omega (arith, low), ap (λ m. get_or (q ∷ qs) m []) next ∙ more.1)

-- one number names one reference
one_name : (names : List Bytes) (r q : Bytes) (n : ℕ) → number_of names r ≡ Some n → number_of names q ≡ Some n → r ≡ q
one_name names r q n e f = sym (numbered_name names r 0 n e).1 ∙ (numbered_name names q 0 n f).1

some_of : (o : Option ℕ) → IsSome o → (n : ℕ) × (o ≡ Some n)
some_of None is = absurd (true≢false (sym is))
some_of (Some n) is = (n, refl)

count_told : (m n : ℕ) → count m ≡ count n → m ≡ n
count_told m n e = cc

both_listed : (m n f g : ℕ) (more rest : Items) → with_number (Some m) f more ≡ with_number (Some n) g rest
    → (m ≡ n) × (f ≡ g) × (more ≡ rest)
both_listed m n f g more rest e =
    let first : count m ≡ count n = cc in
    let second : count f ≡ count g = cc in
    (count_told m n first, count_told f g second, cc)

pub array_told : (items more : Items) → array items ≡ array more → items ≡ more
array_told items more e = cc

none_listed : (o : Option ℕ) (f : ℕ) (more : Items) → IsSome o → with_number o f more ≡ no_items → ⊥
none_listed None f more is e = true≢false (sym is)
none_listed (Some n) f more is e = cc

-- postings are told by their list
pub list_tells : (names : List Bytes) (ps qs : List (Bytes × ℕ)) → HasNumbers names ps → HasNumbers names qs
    → numbered names ps ≡ numbered names qs → ps ≡ qs
list_tells names [] [] here there e = refl
list_tells names [] (q ∷ qs) here there e = absurd (none_listed (number_of names q.0) q.1 (numbered names qs) there.0 (sym e))
list_tells names (p ∷ ps) [] here there e = absurd (none_listed (number_of names p.0) p.1 (numbered names ps) here.0 e)
list_tells names (p ∷ ps) (q ∷ qs) here there e =
    let m = some_of (number_of names p.0) here.0 in
    let n = some_of (number_of names q.0) there.0 in
    let told = both_listed m.0 n.0 p.1 q.1 (numbered names ps) (numbered names qs)
    (ap (λ o. with_number o p.1 (numbered names ps)) (sym m.1) ∙ e
    ∙ ap (λ o. with_number o q.1 (numbered names qs)) n.1) in
    let name : p.0 ≡ q.0 = one_name names p.0 q.0 m.0 m.1 (n.1 ∙ ap Some (sym told.0)) in
    λ i. (name i, told.1 i) ∷ list_tells names ps qs here.1 there.1 told.2 i

-- ---- what the values of pieces tell

pub members_tell : (names tokens others : List Bytes) (tables more : List Table)
    → token_members names tables tokens ≡ token_members names more others → tokens ≡ others
members_tell names [] [] tables more e = refl
members_tell names [] (u ∷ us) tables more e = absurd (cc)
members_tell names (t ∷ ts) [] tables more e = absurd (cc)
members_tell names (t ∷ ts) (u ∷ us) tables more e =
    let rest : token_members names tables ts ≡ token_members names more us = cc in
    let here : t ≡ u = cc in
    λ i. here i ∷ members_tell names ts us tables more rest i

pub values_tell : (names tokens others : List Bytes) (tables more : List Table)
    → token_members names tables tokens ≡ token_members names more others → (token : Bytes)
    → is_listed token tokens ≡ true → field_values names tables token ≡ field_values names more token
values_tell names [] others tables more e token h = absurd (true≢false (sym h))
values_tell names (t ∷ ts) [] tables more e token h = absurd (cc)
values_tell names (t ∷ ts) (u ∷ us) tables more e token h =
    let rest : token_members names tables ts ≡ token_members names more us = cc in
    let other : t ≡ u = cc in
    let lists : array (field_values names tables t) ≡ array (field_values names more u) = cc in
    elim (either (bytes_eq token t) _ h) [
      | inl is ↦ let same : token ≡ t = (bytes_eq-Decides token t).0 is in
          ap (field_values names tables) same
          ∙ array_told (field_values names tables t) (field_values names more u) lists
          ∙ ap (field_values names more) (sym other ∙ sym same)
      | inr later ↦ values_tell names ts us tables more rest token later
    ]

length_told : (o p : Option ℕ) → length_value o ≡ length_value p → o ≡ p
length_told None None e = refl
length_told None (Some n) e = absurd (cc)
length_told (Some n) None e = absurd (cc)
length_told (Some m) (Some n) e = ap Some (count_told m n e)

field_tells : (contents other : Contents) (field r : Bytes) (names : List Bytes)
    → field_lengths contents field names ≡ field_lengths other field names → is_listed r names ≡ true
    → length_at contents r field ≡ length_at other r field
field_tells contents other field r [] e h = absurd (true≢false (sym h))
field_tells contents other field r (q ∷ qs) e h =
    let rest : field_lengths contents field qs ≡ field_lengths other field qs = cc in
    let here : length_value (length_at contents q field) ≡ length_value (length_at other q field) = cc in
    elim (either (bytes_eq r q) _ h) [
      | inl is ↦ let same : q ≡ r = sym ((bytes_eq-Decides r q).0 is) in
          subst (λ name. length_at contents name field ≡ length_at other name field) same
          (length_told (length_at contents q field) (length_at other q field) here)
      | inr later ↦ field_tells contents other field r qs rest later
    ]

pub lengths_tell : (contents other : Contents) (fields names : List Bytes)
    → all_lengths contents fields names ≡ all_lengths other fields names → (field r : Bytes)
    → is_listed field fields ≡ true → is_listed r names ≡ true
    → length_at contents r field ≡ length_at other r field
lengths_tell contents other [] names e field r in_fields in_names = absurd (true≢false (sym in_fields))
lengths_tell contents other (f ∷ fs) names e field r in_fields in_names =
    let rest : all_lengths contents fs names ≡ all_lengths other fs names = cc in
    let lists : array (field_lengths contents f names) ≡ array (field_lengths other f names) = cc in
    elim (either (bytes_eq field f) _ in_fields) [
      | inl is ↦ let same : f ≡ field = sym ((bytes_eq-Decides field f).0 is) in
          subst (λ x. length_at contents r x ≡ length_at other r x) same (field_tells contents other f r names
          (array_told (field_lengths contents f names) (field_lengths other f names) lists) in_names)
      | inr later ↦ lengths_tell contents other fs names rest field r later in_names
    ]

same_string : (a b : Bytes) → string a ≡ string b → a ≡ b
same_string a b e = cc

pub documents_tell : (documents others : List TextMap) → documents_items documents ≡ documents_items others
    → documents ≡ others
documents_tell [] [] e = refl
documents_tell [] (n ∷ ns) e = absurd (cc)
documents_tell (m ∷ ms) [] e = absurd (cc)
documents_tell (m ∷ ms) (n ∷ ns) e =
    let rest : documents_items ms ≡ documents_items ns = cc in
    let here : keyed string m ≡ keyed string n = cc in
    λ i. same_keyed string same_string m n here i ∷ documents_tell ms ns rest i
