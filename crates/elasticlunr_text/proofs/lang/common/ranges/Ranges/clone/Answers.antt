use Rattle.std.proofs.Common.{◌≡◌, ℕ, List, sym, subst}
use Rattle.std.specs.List.{AllZip}
use Rattle.std.proofs.lemmas.List.Elements.{same_from_all_zip}
use Rattle.elasticlunr_text.specs.Ranges.{AreApart}
use Rattle.elasticlunr_text.proofs.lang.common.ranges.Ranges.clone.Goals as goal

-- ranges with the same ends are the same
same_ranges : (old new : List (ℕ × ℕ)) → AllZip (λ x y. (y.0 ≡ x.0) × (y.1 ≡ x.1)) old new → new ≡ old
same_ranges old new same = same_from_all_zip _ old new same (λ x y ends i. (ends.0 i, ends.1 i))

pub returns : goal.returns
returns c = same_ranges c.args.self.now.ranges.items c.in_ok-clone.field-0.items c.in_ok-clone.ensures.cases.0

pub invariant_of-result : goal.invariant_of-result
invariant_of-result c = record {
  apart = subst AreApart
      (sym (same_ranges c.args.self.now.ranges.items c.in_ok-clone.field-0.items c.in_ok-clone.ensures.cases.0))
      c.args.self.now.apart;
}
