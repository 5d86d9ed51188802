use Rattle.elasticlunr.proofs.Reading.{run_by_language, only_run_by_language}
use Rattle.elasticlunr.proofs.laws.reading.a_language_reads_what_its_pipeline_leaves.Goals as goal

pub returns-clause-reads : goal.returns-clause-reads
returns-clause-reads g c = λ i text made left stages is ran.
    run_by_language _ _ (g.L.Language.tokens_of c.args.language.now) stages i text made left is ran

pub returns-clause-only : goal.returns-clause-only
returns-clause-only g c = λ i text made left others stages is ran reads.
    only_run_by_language _ _ (g.L.Language.tokens_of c.args.language.now) stages c.a_run_has_one_answer.ensures i text
    made left others is ran reads
