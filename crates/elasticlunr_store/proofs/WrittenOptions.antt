-- What is written for options gives them.
use Rattle.std.proofs.Common.{◌≡◌, inl, ℕ, ◌<◌, ◌^◌, Bool, false, ◌||◌, List, [], ◌∷◌, Option, option_map, Some, None}
use Rattle.std.proofs.Common.{IfSome, Less, Equal, Greater, refl, sym, ap, subst, ◌∙◌, cond}
use Rattle.std.specs.Ordering.{nat_cmp, match_ordering, is_eq}
use Rattle.std.specs.Cmp.Lexicographic.{slice_cmp}
use Rattle.std.specs.Option.{ForSome}
use Rattle.std.specs.FinMap as map
use Rattle.serde_json.specs.Data.{Data}
use Rattle.serde_json.specs.Find.{get_member}
use Rattle.serde_json.specs.Written.{has_float}
use Rattle.elasticlunr_error.specs.Text.{Bytes, text_cmp}
use Rattle.elasticlunr_json.specs.Maps.{members, keyed}
use Rattle.elasticlunr_store.specs.Options.{Options, HasSmallBoosts, bool_value, field_value, options_value, ReadsAt}
use Rattle.elasticlunr_store.specs.Options.{ReadsField, ReadsOptions}
use Rattle.elasticlunr_store.specs.declared.config.SearchBool.{SearchBool}
use Rattle.elasticlunr_store.specs.declared.config.SearchBool.TheVariants.{Or, And}
use Rattle.elasticlunr_json.proofs.Keyed.{bare_keyed}
use Rattle.elasticlunr_store.specs.declared.config.SearchOptionsField.{SearchOptionsField}

field_written : (boost : Option ℕ) (bool : Option SearchBool) (expand : Option Bool)
    (small : ForSome boost (λ n. n < 2 ^ 8))
    → ReadsField (field_value (record { boost = boost; bool = bool; expand = expand; small = small }))
    (record { boost = boost; bool = bool; expand = expand; small = small })
field_written None None None small = record { is_object = refl; boost = inl refl; bool = inl refl; expand = inl refl }
field_written None None (Some z) small = record { is_object = refl; boost = inl refl; bool = inl refl; expand = refl }
field_written None (Some y) None small = record { is_object = refl; boost = inl refl; bool = refl; expand = inl refl }
field_written None (Some y) (Some z) small = record { is_object = refl; boost = inl refl; bool = refl; expand = refl }
field_written (Some x) None None small = record { is_object = refl; boost = refl; bool = inl refl; expand = inl refl }
field_written (Some x) None (Some z) small = record { is_object = refl; boost = refl; bool = inl refl; expand = refl }
field_written (Some x) (Some y) None small = record { is_object = refl; boost = refl; bool = refl; expand = inl refl }
field_written (Some x) (Some y) (Some z) small = record { is_object = refl; boost = refl; bool = refl; expand = refl }

-- what is found among the members of a map's object
found : {X : Type 0} (value : X → Data) (name : Bytes) (es : List (Bytes × X)) → get_member name (members value es)
    ≡ option_map value (map.find text_cmp name es)
found value name [] = refl
found value name (e ∷ es) = by (slice_cmp nat_cmp name e.0) (found value name es)
  where
    by : (o : _) → get_member name (members value es) ≡ option_map value (map.find text_cmp name es)
        → match_ordering o (get_member name (members value es)) (Some (value e.1))
        (get_member name (members value es)) ≡ option_map value
        (cond (is_eq o) (Some e.1) (map.find text_cmp name es))
    by Less h = h
    by Equal h = refl
    by Greater h = h

-- each boost has 8 bits
pub small_boosts : (options : Options) → HasSmallBoosts options
small_boosts options name = by (map.get options.fields name)
  where
    by : (o : Option SearchOptionsField) → IfSome o (λ field. IfSome field.boost (λ n. n < 2 ^ 8))
    by None = tt
    by (Some field) = small field.boost field.small
      where
        small : (boost : Option ℕ) → ForSome boost (λ n. n < 2 ^ 8) → IfSome boost (λ n. n < 2 ^ 8)
        small None h = tt
        small (Some n) h = h n refl

pub written : (options : Options) → ReadsOptions (options_value options) options
written options = record {
  bool = refl;
  expand = refl;
  under_fields = keyed field_value options.fields;
  there = refl;
  fields = record {
    members = members field_value (map.entries options.fields);
    is = refl;
    each = λ name. subst (λ o. ReadsAt o (map.get options.fields name))
        (sym (found field_value name (map.entries options.fields)
        ∙ ap (option_map field_value) (sym (map.get-entries options.fields name))))
        (by (map.get options.fields name));
  };
}
  where
    by : (o : Option SearchOptionsField) → ReadsAt (option_map field_value o) o
    by None = tt
    by (Some field) = field_written field.boost field.bool field.expand field.small

bool_whole : (b : SearchBool) → has_float (bool_value b) ≡ false
bool_whole Or = refl
bool_whole And = refl

field_whole : (boost : Option ℕ) (bool : Option SearchBool) (expand : Option Bool)
    (small : ForSome boost (λ n. n < 2 ^ 8))
    → has_float (field_value (record { boost = boost; bool = bool; expand = expand; small = small })) ≡ false
field_whole None None None small = refl
field_whole None None (Some z) small = refl
field_whole None (Some Or) None small = refl
field_whole None (Some And) None small = refl
field_whole None (Some Or) (Some z) small = refl
field_whole None (Some And) (Some z) small = refl
field_whole (Some x) None None small = refl
field_whole (Some x) None (Some z) small = refl
field_whole (Some x) (Some Or) None small = refl
field_whole (Some x) (Some And) None small = refl
field_whole (Some x) (Some Or) (Some z) small = refl
field_whole (Some x) (Some And) (Some z) small = refl

-- the value of options holds no float
pub no_float : (options : Options) → has_float (options_value options) ≡ false
no_float options = λ i. bool_whole options.bool i ||
    (false || (bare_keyed field_value (λ field. field_whole field.boost field.bool field.expand field.small)
    options.fields i || false))
