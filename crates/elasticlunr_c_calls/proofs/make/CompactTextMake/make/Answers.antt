use Rattle.std.proofs.Common.{inl, refl}
use Rattle.elasticlunr_job.proofs.Stops.{ok_more}
use Rattle.elasticlunr_c_calls.proofs.make.CompactTextMake.make.Goals as goal

pub returns-clause-ok : goal.returns-clause-ok
returns-clause-ok g c = ok_more c.to_json.result _ _
    (λ text prints commands stands. prints commands commands stands (inl refl)) c.to_json.ensures.text
