use Rattle.std.proofs.Common.{◌≡◌, None, map, length, string_bytes, option_map}
use Rattle.std.specs.List.{zip}
use Rattle.std.specs.BTreeMap.{get_by}
use Rattle.elasticlunr_error.specs.Text.{Bytes, text_cmp}
use Rattle.elasticlunr_print.specs.Sorted.{last_under}
use Rattle.elasticlunr_print.proofs.write.by_name.Given as goal

-- what is found so far, or else among what is left, is what is found in all
abbrev pub invariant-loop-name : goal.invariant-loop-name
invariant-loop-name l =
    (length l.name-iterator.b.rest.now ≡ length l.name-iterator.a.rest.now)
    × ((q : Bytes) → last_under q (option_map (λ t. t.now) (get_by (λ k. text_cmp q k.now) l.sorted))
    (zip (map string_bytes l.name-iterator.a.rest.now) l.name-iterator.b.rest.now)
    ≡ last_under q None (zip (map string_bytes l.fields) l.tries))
