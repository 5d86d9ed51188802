use Rattle.std.proofs.Common.{option_map}
use Rattle.elasticlunr_piece_search.proofs.Filling.{Filling}
use Rattle.elasticlunr_piece_search.proofs.texts.add_each.Given as goal

-- the first documents were put in
abbrev pub invariant-loop-place : goal.invariant-loop-place
invariant-loop-place l = Filling (option_map (λ n. n.now) l.name) l.references l.documents l.initial.store l.store l.place
