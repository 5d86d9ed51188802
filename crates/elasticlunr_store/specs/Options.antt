-- Search options, and the values that give them.
use Rattle.std.specs.Prelude.{◌≡◌, ◌⊎◌, ◌&&◌, ◌<◌, ◌^◌, ℕ, nat_eq, Bool, true, false, List, Option}
use Rattle.std.specs.Prelude.{Some, None, IfSome, IsSome, codes, String}
use mathlib.Core.Bool.{beq}
use Rattle.std.specs.declared.alloc.Global.{Global}
use Rattle.std.specs.FinMap as map
use Rattle.serde_json.specs.Data.{Data, null, boolean, string, object, Members, no_members, member}
use Rattle.serde_json.specs.Find.{get, get_member, as_object}
use Rattle.elasticlunr_error.specs.Text.{Bytes, text_cmp}
use Rattle.elasticlunr_json.specs.Maps.{seen, keyed, count, same_map}
use Rattle.elasticlunr_store.specs.declared.config.SearchBool.{SearchBool}
use Rattle.elasticlunr_store.specs.declared.config.SearchBool.TheVariants.{Or, And}
use Rattle.elasticlunr_store.specs.declared.config.SearchOptionsField.{SearchOptionsField}
use Rattle.elasticlunr_store.specs.declared.config.SearchOptions.{SearchOptions}

-- from fields to their options
abbrev pub FieldMap : Type 0
FieldMap = map.FinMap text_cmp SearchOptionsField

-- the options for all fields, and those of some
pub record Options : Type 0 where
  pub bool : SearchBool
  pub expand : Bool
  pub fields : FieldMap

-- what a map of options represents
abbrev pub field_map : List (String Global × SearchOptionsField) → FieldMap
field_map entries = seen (λ field. field) entries

abbrev pub options_of : SearchOptions → Options
options_of options = record {
  bool = options.bool;
  expand = options.expand;
  fields =
      field_map options.fields.entries;
}

abbrev pub new_options : Options
new_options = record { bool = Or; expand = false; fields = map.empty }

-- boosts have 8 bits
abbrev pub HasSmallBoosts : Options → Type 0
HasSmallBoosts options = (name : Bytes)
    → IfSome (map.get options.fields name) (λ field. IfSome field.boost (λ n. n < 2 ^ 8))

abbrev pub bool_value : SearchBool → Data
bool_value Or = string (codes "OR")
bool_value And = string (codes "AND")

-- a member before others, if it is there
abbrev pub optional_member : {X : Type 0} → List ℕ → (X → Data) → Option X → Members → Members
optional_member key value None members = members
optional_member key value (Some x) members = member key (value x) members

-- the value of the options of one field: the members for what is set, in the order of their keys
abbrev pub field_value : SearchOptionsField → Data
field_value field = object (optional_member (codes "bool") bool_value field.bool
    (optional_member (codes "boost") count field.boost
    (optional_member (codes "expand") boolean field.expand no_members)))

abbrev pub options_object : Data → Data → Data → Data
options_object bool expand fields =
    object (member (codes "bool") bool
    (member (codes "expand") expand (member (codes "fields") fields no_members)))

-- the value that is written for options
abbrev pub options_value : Options → Data
options_value options = options_object (bool_value options.bool) (boolean options.expand)
    (keyed field_value options.fields)

-- what is found under a key gives a part: what is absent or null gives none
abbrev pub IsPart : {X : Type 0} → (X → Data) → Option Data → Option X → Type 0
IsPart value found None = (found ≡ None) ⊎ (found ≡ Some null)
IsPart value found (Some x) = found ≡ Some (value x)

-- the value is an object that gives the options of a field; other members are not looked at
pub record ReadsField (value : Data) (field : SearchOptionsField) : Type 0 where
  pub is_object : IsSome (as_object value)
  pub boost : IsPart count (get (codes "boost") value) field.boost
  pub bool : IsPart bool_value (get (codes "bool") value) field.bool
  pub expand : IsPart boolean (get (codes "expand") value) field.expand

abbrev pub ReadsAt : Option Data → Option SearchOptionsField → Type 0
ReadsAt None None = Unit {0}
ReadsAt None (Some field) = ⊥
ReadsAt (Some value) None = ⊥
ReadsAt (Some value) (Some field) = ReadsField value field

-- the value is an object that gives each of the fields its options, and has no other members
pub record ReadsFields (value : Data) (fields : FieldMap) : Type 0 where
  pub members : Members
  pub is : value ≡ object members
  pub each : (name : Bytes) → ReadsAt (get_member name members) (map.get fields name)

-- the value is an object that gives the options; other members are not looked at
pub record ReadsOptions (value : Data) (options : Options) : Type 0 where
  pub bool : get (codes "bool") value ≡ Some (bool_value options.bool)
  pub expand : get (codes "expand") value ≡ Some (boolean options.expand)
  pub under_fields : Data
  pub there : get (codes "fields") value ≡ Some under_fields
  pub fields : ReadsFields under_fields options.fields

abbrev pub same_bool : SearchBool → SearchBool → Bool
same_bool Or Or = true
same_bool Or And = false
same_bool And Or = false
same_bool And And = true

abbrev pub same_part : {X : Type 0} → (X → X → Bool) → Option X → Option X → Bool
same_part same None None = true
same_part same None (Some y) = false
same_part same (Some x) None = false
same_part same (Some x) (Some y) = same x y

abbrev pub same_field : SearchOptionsField → SearchOptionsField → Bool
same_field a b = same_part nat_eq a.boost b.boost &&
    (same_part same_bool a.bool b.bool && same_part beq a.expand b.expand)

-- two options are the same in each part
abbrev pub same_options : Options → Options → Bool
same_options a b = same_bool a.bool b.bool && (beq a.expand b.expand && same_map same_field a.fields
    b.fields)
