use Rattle.std.proofs.Common.{All, subst, sym}
use Rattle.elasticlunr_stem_cache.specs.Entries.{IsRight}
use Rattle.elasticlunr_stem_cache.proofs.cache.Cache.make_room.Goals as goal

pub invariant_of-self : goal.invariant_of-self
invariant_of-self c =
    let language = c.args.self.now.language in
    let version = c.args.self.now.version in
    record {
      right = c.moved.ensures language version
          (subst (λ slots. All (IsRight language version) slots.items) (sym c.replace-slots.ensures.value)
          c.args.self.now.right) (c.in_ok-more.ensures language version);
    }
