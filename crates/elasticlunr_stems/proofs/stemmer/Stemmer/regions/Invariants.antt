use Rattle.std.proofs.Common.{◌≡◌, ◌∷◌, map, take}
use Rattle.elasticlunr_stems.specs.Stems.{region_of}
use Rattle.elasticlunr_stems.specs.Views.{steps_of, mark_of}
use Rattle.elasticlunr_stems.proofs.stemmer.Stemmer.regions.Given as goal

abbrev pub invariant-loop-mark : goal.invariant-loop-mark
invariant-loop-mark l =
    l.regions.items
    ≡ 0 ∷ map (region_of (steps_of l.self.steps.items) l.text) (map mark_of (take l.mark-index l.self.marks.items))
