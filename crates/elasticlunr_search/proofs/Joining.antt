-- What is found field by field is joined.
use Rattle.std.proofs.Common.{◌≡◌, ◌<◌, ◌≤◌, ◌+◌, ℕ, Bool, true, false, ◌||◌, List, [], ◌∷◌, ◌++◌, length, take, get_or}
use Rattle.std.proofs.Common.{refl, sym, ap, subst, ◌∙◌}
use Rattle.std.specs.Borrow.{Bor}
use Rattle.std.specs.List.{AllZip, list_any}
use Rattle.std.proofs.lemmas.List.{take_more, take_all, map-append}
use Rattle.std.proofs.lemmas.List.Folds.{list_any-append}
use Rattle.elasticlunr_text.specs.Text.{Bytes, is_listed}
use Rattle.elasticlunr.specs.Fields.{borrowed}
use Rattle.elasticlunr_search.proofs.FieldTries.{push}

-- one name more
pub next_field : (names : List (Bor Bytes)) (i : ℕ) (other : Bor Bytes) → i < length names
    → borrowed (take (i + 1) names) ≡ borrowed (take i names) ++ (get_or names i other).now ∷ []
next_field names i other lt = ap borrowed (take_more names i other lt)
    ∙ map-append (λ text. text.now) (take i names) (get_or names i other ∷ [])

pub or_none : (b : Bool) → (b || false) ≡ b
or_none true = refl
or_none false = refl

-- each name has a list of its own, and what is found is listed in one of these
pub record AreJoined (R : Bytes → List Bytes → Type 0) (names found : List Bytes) : Type 0 where
  pub parts : List (List Bytes)
  pub each : AllZip R names parts
  pub in_one : (r : Bytes) → is_listed r found ≡ list_any (is_listed r) parts

pub joined_more : (R : Bytes → List Bytes → Type 0) (names all before after part : List Bytes) (name : Bytes) → all
    ≡ names ++ name ∷ [] → AreJoined R names before → R name part
    → ((r : Bytes) → is_listed r after ≡ (is_listed r before || is_listed r part)) → AreJoined R all after
joined_more R names all before after part name more are its both = record {
  parts = are.parts ++ part ∷ [];
  each = subst (λ ns. AllZip R ns (are.parts ++ part ∷ [])) (sym more) (push R names are.parts name part are.each its);
  in_one = λ r. both r ∙ ap (λ b. b || is_listed r part) (are.in_one r)
      ∙ ap (λ b. list_any (is_listed r) are.parts || b) (sym (or_none (is_listed r part)))
      ∙ sym (list_any-append (is_listed r) are.parts (part ∷ []));
}

pub all_joined : (R : Bytes → List Bytes → Type 0) (names : List (Bor Bytes)) (i : ℕ) (found : List Bytes)
    → length names ≤ i → AreJoined R (borrowed (take i names)) found → AreJoined R (borrowed names) found
all_joined R names i found past are = subst (λ ns. AreJoined R (borrowed ns) found) (take_all i names past) are
