-- What the tests of equality decide.
use Rattle.std.proofs.Common.{◌≡◌, Bool, true, false, ◌&&◌, refl, subst, bytes_eq, nat_eq}
use mathlib.Core.Bool.{beq, false≢true}
use Rattle.std.specs.Bool.{Decides}
use Rattle.std.specs.Cmp.{IsEquivalence, bool_eq_equiv, decided}
use Rattle.std.proofs.lemmas.Slice.Eq.{bytes_eq-Decides}
use Rattle.elasticlunr_json.specs.Maps.{same_map}
use Rattle.elasticlunr_json.specs.EqualMaps.{both_true, map_Decides, nat_Decides}
use Rattle.elasticlunr_store_maps.specs.Contents.{Contents, same_contents}

pub bool_one : (a b : Bool) → beq a b ≡ true → a ≡ b
bool_one true true e = refl
bool_one false false e = refl
bool_one true false e = absurd (false≢true e)
bool_one false true e = absurd (false≢true e)

-- `==` is equality of contents
pub contents_Decides : (c d : Contents) → Decides (same_contents c d) (c ≡ d)
contents_Decides c d = (
  λ e.
      let parts = both_true _ _ e in
      let maps = both_true _ _ parts.1 in
      λ i. record {
        save = bool_one c.save d.save parts.0 i;
        texts = (map_Decides (same_map bytes_eq) (map_Decides bytes_eq bytes_eq-Decides) c.texts
            d.texts).0 maps.0 i;
        lengths = (map_Decides (same_map nat_eq) (map_Decides nat_eq nat_Decides) c.lengths
            d.lengths).0 maps.1 i;
      },
  λ p. subst (λ x. same_contents c x ≡ true) p
      (λ i. bool_eq_equiv.refl c.save i &&
      ((map_Decides (same_map bytes_eq) (map_Decides bytes_eq bytes_eq-Decides) c.texts c.texts).1
      refl i && (map_Decides (same_map nat_eq) (map_Decides nat_eq nat_Decides) c.lengths
      c.lengths).1 refl i)),
)

pub contents_equivalence : IsEquivalence same_contents
contents_equivalence = decided same_contents contents_Decides
