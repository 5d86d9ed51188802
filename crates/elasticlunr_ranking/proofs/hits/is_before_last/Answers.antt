use Rattle.std.proofs.Common.{◌∙◌, arith, heap_items, heap_len, refl}
use Rattle.std.proofs.lemmas.List.Elements.{All-from_recursion}
use Rattle.elasticlunr_ranking.proofs.Keeping.{compared, less}
use Rattle.std.proofs.Common.{rules}
use Rattle.elasticlunr_ranking.proofs.hits.is_before_last.Goals as goal

pub returns-in-Some : goal.returns-in-Some
returns-in-Some c =
    let some = c.in-Some.ensures.variant.0 refl in
    compared c.lt.result c.args.key.now c.in-Some.last.now (heap_items c.args.kept.now) (heap_len c.args.kept.now)
    (c.lt.ensures ∙ less _ _ _) some (omega arith) c.in-Some.ensures.lookup
    (All-from_recursion _ _ (c.in-Some.ensures.greatest c.requires))

pub returns-in-None : goal.returns-in-None
returns-in-None c = search rules
