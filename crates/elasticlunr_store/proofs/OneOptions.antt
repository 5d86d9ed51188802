-- A value gives one answer at most.
use Rattle.std.proofs.Common.{◌≡◌, ◌≢◌, inl, inr, Bool, Option, Some, None, refl, sym, ap, subst, ◌∙◌}
use Rattle.std.specs.FinMap as map
use Rattle.serde_json.specs.Data.{Data, null, boolean, object}
use Rattle.serde_json.specs.Find.{get_member}
use Rattle.elasticlunr_json.specs.Maps.{count}
use Rattle.elasticlunr_store.specs.Options.{Options, FieldMap, bool_value, IsPart, ReadsAt, ReadsField, ReadsFields}
use Rattle.elasticlunr_store.specs.Options.{ReadsOptions}
use Rattle.elasticlunr_store.specs.declared.config.SearchBool.{SearchBool}
use Rattle.elasticlunr_store.specs.declared.config.SearchBool.TheVariants.{Or, And}
use Rattle.elasticlunr_store.specs.declared.config.SearchOptionsField.{SearchOptionsField}
use Rattle.elasticlunr_json.proofs.Seen.{same}
use Rattle.elasticlunr_store.specs.EqualOptions.{one_field}
use Rattle.elasticlunr_store_maps.proofs.Values.{same_count}

module _ {X : Type 0} (value : X → Data) (one : (x y : X) → value x ≡ value y → x ≡ y) (there : (x : X)
    → value x ≢ null) where
  one_part : (found : Option Data) (a b : Option X) → IsPart value found a → IsPart value found b → a ≡ b
  one_part found None None p q = refl
  one_part found None (Some y) (inl p) q = let both : None ≡ Some (value y) = sym p ∙ q in absurd (cc)
  one_part found None (Some y) (inr p) q = let both : Some null ≡ Some (value y) = sym p ∙ q in absurd (there y (cc))
  one_part found (Some x) None p (inl q) = let both : None ≡ Some (value x) = sym q ∙ p in absurd (cc)
  one_part found (Some x) None p (inr q) = let both : Some null ≡ Some (value x) = sym q ∙ p in absurd (there x (cc))
  one_part found (Some x) (Some y) p q =
      let both : Some (value x) ≡ Some (value y) = sym p ∙ q in
      let alike : value x ≡ value y = cc in
      ap Some (one x y alike)

one_boolean : (x y : Bool) → boolean x ≡ boolean y → x ≡ y
one_boolean x y e = cc

one_bool : (x y : SearchBool) → bool_value x ≡ bool_value y → x ≡ y
one_bool Or Or e = refl
one_bool Or And e = absurd (cc)
one_bool And Or e = absurd (cc)
one_bool And And e = refl

bool_there : (x : SearchBool) → bool_value x ≢ null
bool_there Or e = cc
bool_there And e = cc

one_read : (v : Data) (a b : SearchOptionsField) → ReadsField v a → ReadsField v b → a ≡ b
one_read v a b p q =
    one_field a b (one_part count same_count (λ x e. cc) _ a.boost b.boost p.boost q.boost)
    (one_part bool_value one_bool bool_there _ a.bool b.bool p.bool q.bool)
    (one_part boolean one_boolean (λ x e. cc) _ a.expand b.expand p.expand q.expand)

one_at : (found : Option Data) (a b : Option SearchOptionsField) → ReadsAt found a → ReadsAt found b → a ≡ b
one_at None None None p q = refl
one_at None None (Some y) p q = absurd q
one_at None (Some x) b p q = absurd p
one_at (Some v) None b p q = absurd p
one_at (Some v) (Some x) None p q = absurd q
one_at (Some v) (Some x) (Some y) p q = ap Some (one_read v x y p q)

one_map : (v : Data) (m n : FieldMap) → ReadsFields v m → ReadsFields v n → m ≡ n
one_map v m n p q =
    let both : object p.members ≡ object q.members = sym p.is ∙ q.is in
    let members : p.members ≡ q.members = cc in
    same m n (λ name. one_at (get_member name q.members) (map.get m name) (map.get n name)
    (subst (λ ms. ReadsAt (get_member name ms) (map.get m name)) members (p.each name)) (q.each name))

-- a value gives one search's options at most
pub one_options : (v : Data) (a b : Options) → ReadsOptions v a → ReadsOptions v b → a ≡ b
one_options v a b p q =
    let bools : Some (bool_value a.bool) ≡ Some (bool_value b.bool) = sym p.bool ∙ q.bool in
    let bool : bool_value a.bool ≡ bool_value b.bool = cc in
    let expands : Some (boolean a.expand) ≡ Some (boolean b.expand) = sym p.expand ∙ q.expand in
    let expand : a.expand ≡ b.expand = cc in
    let unders : Some p.under_fields ≡ Some q.under_fields = sym p.there ∙ q.there in
    let under : p.under_fields ≡ q.under_fields = cc in
    λ i. record {
      bool = one_bool a.bool b.bool bool i;
      expand = expand i;
      fields = one_map q.under_fields a.fields b.fields (subst (λ d. ReadsFields d a.fields) under p.fields) q.fields i;
    }
