use Rattle.std.proofs.Common.{option_map, subst, sym}
use Rattle.elasticlunr_publish.specs.Heads.{AreHeads, told_texts}
use Rattle.elasticlunr_publish.proofs.Listed.{found, ok_map}
use Rattle.elasticlunr_publish.proofs.heads.heads_of.Goals as goal

pub returns-then-end-gt0 : goal.returns-then-end-gt0
returns-then-end-gt0 c = ok_map c.copies_of-then-end-gt0.result
    (λ heads is. subst (λ current. AreHeads (told_texts c.args.recorded.now) (option_map (λ it. it.now) current)
    (told_texts heads.items)) (sym c.in-Some.is)
    (found c.args.recorded.now c.in-Some.current.now c.end_of-end.result c.if-end-gt0.true
    c.end_of-end.ensures.ends c.end_of-end.ensures.none heads.items is)) c.copies_of-then-end-gt0.ensures
