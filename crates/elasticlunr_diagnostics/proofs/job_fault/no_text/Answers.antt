use Rattle.elasticlunr_diagnostics.proofs.job_fault.no_text.Goals as goal

pub returns : goal.returns
returns c = rw (← c.name-name.ensures) c.unfit.ensures
