use Rattle.std.proofs.Common.{◌≡◌, ◌&&◌, not, take}
use Rattle.elasticlunr_publish.specs.Heads.{is_listed, told_texts}
use Rattle.elasticlunr_publish.specs.Names.{Bytes}
use Rattle.elasticlunr_publish.proofs.heads.removed_of.Given as goal

-- what was seen so far, without what is kept
abbrev pub invariant-loop-name : goal.invariant-loop-name
invariant-loop-name l = (other : Bytes) → is_listed other (told_texts l.removed.items)
    ≡ (is_listed other (told_texts (take l.name-index l.recorded)) && not (is_listed other (told_texts l.kept)))
