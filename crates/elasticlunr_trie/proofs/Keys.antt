-- The keys of a map of postings, as bytes.
use Rattle.std.proofs.Common.{◌≡◌, Bool, true, false, cond, ℕ, is_some, Option, Some, None, unwrap_or, List, [], ◌∷◌}
use Rattle.std.proofs.Common.{◌++◌, refl, sym, ap, ◌∙◌, String, Global, string_bytes, string_cmp, bytes_eq, Less}
use Rattle.std.specs.Prelude.{◌||◌}
use Rattle.std.specs.Ordering.{nat_cmp, eq_by_cmp}
use Rattle.std.specs.Cmp.Lexicographic.{slice_cmp}
use Rattle.std.specs.List.{AllByRecursion}
use Rattle.std.specs.List.Sorted.{IsStrictlySortedBy}
use Rattle.std.specs.Map.{keys_of}
use Rattle.std.specs.FinMap.{find, get, empty, get-empty, get-from_entries}
use Rattle.std.proofs.lemmas.Cmp.{nat_list_cmp_total}
use Rattle.std.proofs.lemmas.Map.Text.{is_eq-slice_cmp}
use Rattle.elasticlunr_error.specs.Text.{Text, Bytes, bytes_of, is_listed, text_cmp}
use Rattle.elasticlunr_trie_nodes.specs.Table.{Table, Entries, posting, postings_of}
use Rattle.elasticlunr_trie_nodes.proofs.Entries as entries

pub bytes_behind : (ss : List (String Global)) (s : String Global) → bytes_of (ss ++ s ∷ [])
    ≡ bytes_of ss ++ string_bytes s ∷ []
bytes_behind [] s = refl
bytes_behind (x ∷ ss) s = ap (λ bs. string_bytes x ∷ bs) (bytes_behind ss s)

pub keys_behind : (es : Entries) (e : String Global × ℕ) → bytes_of (keys_of (es ++ e ∷ []))
    ≡ bytes_of (keys_of es) ++ string_bytes e.0 ∷ []
keys_behind [] e = refl
keys_behind (x ∷ es) e = ap (λ bs. string_bytes x.0 ∷ bs) (keys_behind es e)

all_below : (k : String Global) (ks : List (String Global)) → AllByRecursion (λ y. string_cmp k y ≡ Less) ks
    → AllByRecursion (λ y. text_cmp (string_bytes k) y ≡ Less) (bytes_of ks)
all_below k [] h = tt
all_below k (x ∷ ks) h = (h.0, all_below k ks h.1)

pub keys_sorted : (ks : List (String Global)) → IsStrictlySortedBy string_cmp ks
    → IsStrictlySortedBy text_cmp (bytes_of ks)
unfolding IsStrictlySortedBy
keys_sorted [] h = tt
keys_sorted (k ∷ ks) h = (all_below k ks h.0, keys_sorted ks h.1)

either : (a b : Bool) (n : ℕ) (o : Option ℕ) → a ≡ b → (rest : Bool) → rest ≡ is_some o → (a || rest)
    ≡ is_some (cond b (Some n) o)
either true true n o same rest is = refl
either false false n o same rest is = is
either true false n o same rest is = absurd (cc)
either false true n o same rest is = absurd (cc)

listed_found : (es : Entries) (r : Bytes) → is_listed r (bytes_of (keys_of es))
    ≡ is_some (find text_cmp r (entries.bytes_of es))
listed_found [] r = refl
listed_found (e ∷ es) r = either (bytes_eq r (string_bytes e.0)) (eq_by_cmp (slice_cmp nat_cmp) r (string_bytes e.0))
    e.1 (find text_cmp r (entries.bytes_of es)) (sym (is_eq-slice_cmp r (string_bytes e.0))) _ (listed_found es r)

pub listed_posting : (es : Entries) (r : Bytes) → is_listed r (bytes_of (keys_of es)) ≡ is_some (get (postings_of es) r)
listed_posting es r = listed_found es r ∙ ap is_some (sym (get-from_entries nat_list_cmp_total (entries.bytes_of es) r))

pub no_keys_sorted : IsStrictlySortedBy text_cmp []
unfolding IsStrictlySortedBy
no_keys_sorted = tt

pub none_of : {A : Type 0} (o : Option A) → ((x : A) → o ≡ Some x → ⊥) → o ≡ None
none_of None not = refl
none_of (Some x) not = absurd (not x refl)

-- the references of a known token, and of an unknown one
pub listed_some : (T : Table) (t : Text) (es : Entries) → Some (postings_of es) ≡ get T t → (r : Bytes)
    → is_listed r (bytes_of (keys_of es)) ≡ is_some (posting T t r)
listed_some T t es is r = listed_posting es r ∙ ap (λ o. is_some (get (unwrap_or o empty) r)) is

pub none_posted : (T : Table) (t : Text) → None ≡ get T t → (r : Bytes) → is_some (posting T t r) ≡ false
none_posted T t is r = ap (λ o. is_some (get (unwrap_or o empty) r)) (sym is) ∙ ap is_some (get-empty text_cmp r)
