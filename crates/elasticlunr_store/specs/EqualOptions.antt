-- What `==` of options decides, and that it is an equivalence: an `impl` of `==` takes its laws
-- from here.
use Rattle.std.proofs.Common.{◌≡◌, ◌<◌, ◌^◌, Bool, true, false, ◌&&◌, Option, Some, None, refl, ap}
use Rattle.std.proofs.Common.{subst, nat_eq}
use mathlib.Core.Bool.{beq, false≢true}
use mathlib.Core.HLevel.{is_prop→PathP, Π_prop}
use Rattle.std.specs.Bool.{Decides}
use Rattle.std.specs.Cmp.{IsEquivalence, decided}
use Rattle.std.specs.Coded.{le_prop}
use Rattle.std.specs.Option.{ForSome}
use Rattle.elasticlunr_store.specs.Options.{Options, options_of, same_bool, same_part, same_field}
use Rattle.elasticlunr_store.specs.Options.{same_options}
use Rattle.elasticlunr_json.specs.EqualMaps.{both_true, map_Decides, nat_Decides}
use Rattle.elasticlunr_store.specs.Equal.{bool_one}
use Rattle.elasticlunr_store.specs.declared.config.SearchBool.{SearchBool}
use Rattle.elasticlunr_store.specs.declared.config.SearchBool.TheVariants.{Or, And}
use Rattle.elasticlunr_store.specs.declared.config.SearchOptionsField.{SearchOptionsField}

-- a test that finds each thing the same as itself, and nothing else, decides equality
by_test : {X : Type 0} (same : X → X → Bool) → ((x y : X) → same x y ≡ true → x ≡ y)
    → ((x : X) → same x x ≡ true) → (x y : X) → Decides (same x y) (x ≡ y)
by_test same one itself x y = (one x y, λ e. subst (λ z. same x z ≡ true) e (itself x))

one_bool : (a b : SearchBool) → same_bool a b ≡ true → a ≡ b
one_bool Or Or e = refl
one_bool Or And e = absurd (false≢true e)
one_bool And Or e = absurd (false≢true e)
one_bool And And e = refl

bool_itself : (a : SearchBool) → same_bool a a ≡ true
bool_itself Or = refl
bool_itself And = refl

pub bool_Decides : (a b : SearchBool) → Decides (same_bool a b) (a ≡ b)
bool_Decides = by_test same_bool one_bool bool_itself

truth_itself : (a : Bool) → beq a a ≡ true
truth_itself true = refl
truth_itself false = refl

truth_Decides : (a b : Bool) → Decides (beq a b) (a ≡ b)
truth_Decides = by_test beq bool_one truth_itself

module _ {X : Type 0} (same : X → X → Bool) (one : (x y : X) → Decides (same x y) (x ≡ y)) where
  one_part : (a b : Option X) → same_part same a b ≡ true → a ≡ b
  one_part None None e = refl
  one_part None (Some y) e = absurd (false≢true e)
  one_part (Some x) None e = absurd (false≢true e)
  one_part (Some x) (Some y) e = ap Some ((one x y).0 e)

  part_itself : (a : Option X) → same_part same a a ≡ true
  part_itself None = refl
  part_itself (Some x) = (one x x).1 refl

  part_Decides : (a b : Option X) → Decides (same_part same a b) (a ≡ b)
  part_Decides = by_test (same_part same) one_part part_itself

-- the options of a field are their three parts
pub one_field : (a b : SearchOptionsField) → a.boost ≡ b.boost → a.bool ≡ b.bool → a.expand
    ≡ b.expand → a ≡ b
one_field a b e f g = λ i. record {
  boost = e i;
  bool = f i;
  expand = g i;
  small = is_prop→PathP (λ j. ForSome (e j) (λ n. n < 2 ^ 8))
      (λ j. Π_prop (λ n. Π_prop (λ is. le_prop))) a.small b.small i;
}

same_one : (a b : SearchOptionsField) → same_field a b ≡ true → a ≡ b
same_one a b e =
    let parts = both_true (same_part nat_eq a.boost b.boost) _ e in
    let rest = both_true (same_part same_bool a.bool b.bool) _ parts.1 in
    one_field a b ((part_Decides nat_eq nat_Decides a.boost b.boost).0 parts.0)
    ((part_Decides same_bool bool_Decides a.bool b.bool).0 rest.0)
    ((part_Decides beq truth_Decides a.expand b.expand).0 rest.1)

field_itself : (a : SearchOptionsField) → same_field a a ≡ true
field_itself a = λ i. part_itself nat_eq nat_Decides a.boost i &&
    (part_itself same_bool bool_Decides a.bool i && part_itself beq truth_Decides a.expand i)

pub field_Decides : (a b : SearchOptionsField) → Decides (same_field a b) (a ≡ b)
field_Decides = by_test same_field same_one field_itself

one_options : (a b : Options) → same_options a b ≡ true → a ≡ b
one_options a b e =
    let parts = both_true (same_bool a.bool b.bool) _ e in
    let rest = both_true (beq a.expand b.expand) _ parts.1 in
    λ i. record {
      bool = one_bool a.bool b.bool parts.0 i;
      expand = bool_one a.expand b.expand rest.0 i;
      fields = (map_Decides same_field field_Decides a.fields b.fields).0 rest.1 i;
    }

options_itself : (a : Options) → same_options a a ≡ true
options_itself a = λ i. bool_itself a.bool i &&
    (truth_itself a.expand i && (map_Decides same_field field_Decides a.fields a.fields).1 refl i)

-- `==` is equality of each part
pub options_Decides : (a b : Options) → Decides (same_options a b) (a ≡ b)
options_Decides = by_test same_options one_options options_itself

pub bool_equivalence : IsEquivalence same_bool
bool_equivalence = decided same_bool bool_Decides

pub field_equivalence : IsEquivalence same_field
field_equivalence = decided same_field field_Decides

whole_equivalence : IsEquivalence same_options
whole_equivalence = decided same_options options_Decides

pub options_equivalence : IsEquivalence (λ a b. same_options (options_of a) (options_of b))
options_equivalence = record {
  refl = λ a. whole_equivalence.refl (options_of a);
  symm = λ a b. whole_equivalence.symm (options_of a) (options_of b);
  congr = λ a b x h. whole_equivalence.congr (options_of a) (options_of b) (options_of x) h;
}
