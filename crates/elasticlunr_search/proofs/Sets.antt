-- Sets of strings, looked up by their bytes.
use Rattle.std.proofs.Common.{◌≡◌, Bool, true, false, List, [], ◌∷◌, ◌||◌, true≢false, bytes_eq, refl, sym, ap, subst}
use Rattle.std.proofs.Common.{◌∙◌, String, Global, string_bytes, map}
use Rattle.std.specs.Prelude.{string_cmp}
use Rattle.std.specs.Ordering.{eq_by_cmp}
use Rattle.std.specs.List.{list_any}
use Rattle.std.specs.Set.{IsUnion}
use Rattle.std.proofs.lemmas.Slice.Eq.{bytes_eq-Decides}
use Rattle.std.proofs.lemmas.Map.Text.{is_eq-slice_cmp}
use Rattle.elasticlunr_text.specs.Text.{Bytes, bytes_of, is_listed}

-- a string is looked up as its bytes are
listed_key : (k : String Global) (ks : List (String Global)) → is_listed (string_bytes k) (bytes_of ks)
    ≡ list_any (eq_by_cmp string_cmp k) ks
listed_key k [] = refl
listed_key k (x ∷ xs) = λ i. sym (is_eq-slice_cmp (string_bytes k) (string_bytes x)) i || listed_key k xs i

-- bytes that are listed are those of a string
string_with : (q : Bytes) (ks : List (String Global)) → is_listed q (bytes_of ks) ≡ true → (k : String Global)
    × (string_bytes k ≡ q)
string_with q [] e = absurd (true≢false (sym e))
string_with q (x ∷ xs) e = elim (bytes_eq q (string_bytes x)) as (λ b. bytes_eq q (string_bytes x) ≡ b
    → (b || is_listed q (bytes_of xs)) ≡ true → (k : String Global) × (string_bytes k ≡ q)) [
      | true ↦ λ is h. (x, sym ((bytes_eq-Decides q (string_bytes x)).0 is))
      | false ↦ λ is h. string_with q xs h
    ] refl e

-- what is in either set
union_listed : (ks xs ns : List (String Global)) → IsUnion (eq_by_cmp string_cmp) ks xs ns → (q : Bytes)
    → is_listed q (bytes_of ns) ≡ (is_listed q (bytes_of ks) || is_listed q (bytes_of xs))
union_listed ks xs ns is q = by _ _ _ refl refl refl where
  at_key : (k : String Global) → is_listed (string_bytes k) (bytes_of ns)
      ≡ (is_listed (string_bytes k) (bytes_of ks) || is_listed (string_bytes k) (bytes_of xs))
  at_key k = listed_key k ns ∙ is k ∙ sym (λ i. listed_key k ks i || listed_key k xs i)

  at : (k : String Global) × (string_bytes k ≡ q) → is_listed q (bytes_of ns)
      ≡ (is_listed q (bytes_of ks) || is_listed q (bytes_of xs))
  at w = subst (λ r. is_listed r (bytes_of ns) ≡ (is_listed r (bytes_of ks) || is_listed r (bytes_of xs))) w.1
      (at_key w.0)

  by : (a b c : Bool) → is_listed q (bytes_of ns) ≡ a → is_listed q (bytes_of ks) ≡ b → is_listed q (bytes_of xs) ≡ c
      → is_listed q (bytes_of ns) ≡ (is_listed q (bytes_of ks) || is_listed q (bytes_of xs))
  by true b c ea eb ec = at (string_with q ns ea)
  by false true c ea eb ec = at (string_with q ks eb)
  by false false true ea eb ec = at (string_with q xs ec)
  by false false false ea eb ec = ea ∙ sym (λ i. eb i || ec i)

map_same : (xs : List (String Global)) → map (λ x. x) xs ≡ xs
map_same [] = refl
map_same (x ∷ xs) = ap (λ ys. x ∷ ys) (map_same xs)

-- what is in a set after more were put in
pub union_with : (ks xs ns all : List (String Global)) → IsUnion (eq_by_cmp string_cmp) ks xs ns → map (λ x. x) xs ≡ all
    → (q : Bytes) → is_listed q (bytes_of ns) ≡ (is_listed q (bytes_of ks) || is_listed q (bytes_of all))
union_with ks xs ns all is e q = union_listed ks xs ns is q
    ∙ ap (λ ys. is_listed q (bytes_of ks) || is_listed q (bytes_of ys)) (sym (map_same xs) ∙ e)
