use Rattle.std.proofs.Common.{◌≡◌, map, take, string_bytes}
use Rattle.elasticlunr_job_format.specs.ObjectsTold.{text_or, texts_told}
use Rattle.elasticlunr_job_format.proofs.objects.Object.values.Given as goal

-- the texts so far
abbrev pub invariant-loop-text : goal.invariant-loop-text
invariant-loop-text l = texts_told l.values.items
    ≡ map (text_or (string_bytes l.self.reference)) (take l.text-index l.text-items)
