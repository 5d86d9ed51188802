use Rattle.elasticlunr_job_format.proofs.objects.text_under.Goals as goal

pub returns-in-None-clause-err : goal.returns-in-None-clause-err
returns-in-None-clause-err c = tt
