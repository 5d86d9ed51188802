use Rattle.elasticlunr_job_format.proofs.key.job_keys.Goals as goal

pub returns : goal.returns
returns c = rw (
  c.name.ensures,
  c.name-2.ensures,
  c.name-3.ensures,
  c.name-4.ensures,
  c.name-5.ensures,
  c.name-6.ensures,
  c.name-7.ensures,
  c.name-8.ensures,
)
