use Rattle.elasticlunr_stem_cache.proofs.Stems.{by_same}
use Rattle.elasticlunr_stem_cache.proofs.cache.Cache.put.Goals as goal

pub invariant_of-self : goal.invariant_of-self
invariant_of-self c =
    let own = c.is_of.ensures c.if-not-is_of.false in
    record {
      right = c.put_entry-is_more.ensures _ _ c.make_room.new.self.right (by_same _ _
          c.make_room.ensures.language own.0 c.make_room.ensures.version own.1 c.requires);
    }
