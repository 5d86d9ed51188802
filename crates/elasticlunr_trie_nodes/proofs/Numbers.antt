-- The numbers of names, where one more name comes.
use Rattle.std.proofs.Common.{◌≡◌, ℕ, suc, Bool, true, false, cond, List, [], ◌∷◌, ◌++◌, length, Option, Some, None}
use Rattle.std.proofs.Common.{option_map, Result, Ok, Err, IfOk, OnOk, OnErr, refl, sym, ap, ◌∙◌, String, Global}
use Rattle.std.proofs.Common.{bytes_eq}
use mathlib.Core.Bool.{false≢true}
use Rattle.std.specs.BTreeMap.{BTreeMap, get_by_text, is_at}
use Rattle.std.specs.Map.{update, lookup}
use Rattle.std.specs.Ordering.{nat_cmp}
use Rattle.std.specs.Cmp.Lexicographic.{slice_cmp}
use Rattle.std.proofs.lemmas.Slice.Eq.{bytes_eq-Decides}
use Rattle.std.proofs.Common.{string_bytes}
use Rattle.elasticlunr_error.specs.Text.{Bytes}
use Rattle.elasticlunr_trie_nodes.specs.Names.{Names, number_of, names_of}

pub bytes_same : (r : Bytes) → bytes_eq r r ≡ true
bytes_same r = (bytes_eq-Decides r r).1 refl

none_behind : (b : Bool) (o : Option ℕ) → cond b (Some 0) (option_map suc o) ≡ None → (b ≡ false) × (o ≡ None)
none_behind true o e = absurd (cc)
none_behind false None e = (refl, refl)
none_behind false (Some n) e = absurd (cc)

one_behind : (b d : Bool) (n : ℕ) (o : Option ℕ) → (b ≡ true → d ≡ true → ⊥)
    → cond b (Some 0) (option_map suc (cond d (Some n) o))
    ≡ cond d (Some (suc n)) (cond b (Some 0) (option_map suc o))
one_behind true true n o apart = absurd (apart refl refl)
one_behind true false n o apart = refl
one_behind false true n o apart = refl
one_behind false false n o apart = refl

-- a new name has the next number, and the others keep theirs
pub number-push : (names : Names) (r : Bytes) → number_of names r ≡ None → (q : Bytes) → number_of (names ++ r ∷ []) q
    ≡ cond (bytes_eq r q) (Some (length names)) (number_of names q)
number-push [] r none q = refl
number-push (name ∷ names) r none q =
    let parts = none_behind (bytes_eq name r) (number_of names r) none in
    let apart : bytes_eq name q ≡ true → bytes_eq r q ≡ true → ⊥ = λ e d.
    let same : name ≡ r = (bytes_eq-Decides name q).0 e ∙ sym ((bytes_eq-Decides r q).0 d) in
    false≢true (sym parts.0 ∙ ap (λ x. bytes_eq x r) same ∙ bytes_same r) in
    ap (λ o. cond (bytes_eq name q) (Some 0) (option_map suc o)) (number-push names r parts.1 q)
    ∙ one_behind (bytes_eq name q) (bytes_eq r q) (length names) (number_of names q) apart

module _ {E : Type 0} (old new : List (String Global)) (m n : BTreeMap (String Global) ℕ) (name : Bytes)
    (free : number_of (names_of old) name ≡ None) where
  -- the map of numbers stays that of the names
  pub numbers_stay : (result : Result ℕ E) → ((r : Bytes) → get_by_text m r ≡ number_of (names_of old) r)
      → OnOk result (names_of new ≡ names_of old ++ name ∷ [])
      → OnOk result ((r : Bytes) → get_by_text n r
      ≡ update bytes_eq (λ q. get_by_text m q) name (Some (length (names_of old))) r)
      → OnErr result (new ≡ old) → OnErr result (n.entries ≡ m.entries) → (r : Bytes) → get_by_text n r
      ≡ number_of (names_of new) r
  numbers_stay (Ok x) held names numbers same_names same_numbers r =
      numbers r ∙ ap (λ o. cond (bytes_eq name r) (Some (length (names_of old))) o) (held r)
      ∙ sym (number-push (names_of old) name free r) ∙ ap (λ ns. number_of ns r) (sym names)
  numbers_stay (Err e) held names numbers same_names same_numbers r =
      ap (λ es. lookup (is_at (λ k. slice_cmp nat_cmp r (string_bytes k))) es) same_numbers ∙ held r
      ∙ ap (λ ss. number_of (names_of ss) r) (sym same_names)

  -- the new name has the number that was given
  pub number_given : (result : Result ℕ E) → IfOk result (λ k. k ≡ length (names_of old))
      → OnOk result (names_of new ≡ names_of old ++ name ∷ [])
      → IfOk result (λ k. number_of (names_of new) name ≡ Some k)
  number_given (Ok x) is names =
      ap (λ ns. number_of ns name) names ∙ number-push (names_of old) name free name
      ∙ ap (λ b. cond b (Some (length (names_of old))) (number_of (names_of old) name)) (bytes_same name)
      ∙ ap Some (sym is)
  number_given (Err e) is names = tt

pub length-names : (strings : List (String Global)) → length (names_of strings) ≡ length strings
length-names [] = refl
length-names (s ∷ strings) = ap suc (length-names strings)
