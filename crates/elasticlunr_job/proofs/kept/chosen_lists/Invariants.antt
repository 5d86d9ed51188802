use Rattle.std.proofs.Common.{◌≡◌, ◌++◌, map}
use Rattle.std.specs.List.{zip}
use Rattle.elasticlunr.specs.Fields.{borrowed}
use Rattle.elasticlunr_text.specs.Text.{texts_of}
use Rattle.elasticlunr_job.specs.Commands.{kept_words}
use Rattle.elasticlunr_job_format.specs.Rules.{rules_told}
use Rattle.elasticlunr_job.proofs.kept.chosen_lists.Given as goal

-- the words of the values so far, and those of the pairs that are left
abbrev pub invariant-loop-field : goal.invariant-loop-field
invariant-loop-field l = map (λ words. texts_of words.items) l.kept.items
    ++ map (λ both. kept_words (rules_told l.rules) both.0 both.1)
    (zip (borrowed l.field-iterator.a.rest.now) (borrowed l.field-iterator.b.rest.now))
    ≡ map (λ both. kept_words (rules_told l.rules) both.0 both.1) (zip (borrowed l.fields) (borrowed l.values))
