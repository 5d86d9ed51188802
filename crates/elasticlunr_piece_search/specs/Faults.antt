-- Why a text isn't a piece.
use Rattle.elasticlunr_piece_search.specs.declared.fault.PieceFault.{PieceFault}
use Rattle.elasticlunr_piece_search.specs.declared.fault.PieceFault.TheVariants.{Size, NotRead}
use Rattle.elasticlunr_piece_search.specs.declared.fault.PieceFault.TheVariants.{Other, Memory}

-- memory was refused, or the entries are others, and then P
abbrev pub IsOther : Type 0 → PieceFault → Type 0
IsOther P (Size n) = ⊥
IsOther P NotRead = ⊥
IsOther P Other = P
IsOther P Memory = Unit {0}
