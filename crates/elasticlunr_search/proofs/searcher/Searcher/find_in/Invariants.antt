use Rattle.std.proofs.Common.{take}
use Rattle.elasticlunr_text.specs.Text.{bytes_of}
use Rattle.elasticlunr.specs.Fields.{borrowed}
use Rattle.elasticlunr_search.specs.Standing.{AreFoundAsChosen, AreFoundInTexts, AreFoundInTrie, HasFieldsOf}
use Rattle.elasticlunr_search.proofs.Joining.{AreJoined}
use Rattle.elasticlunr_search.proofs.searcher.Searcher.find_in.Given as goal

-- the fields so far are there, and what is found in each is joined
abbrev pub invariant-loop-field : goal.invariant-loop-field
invariant-loop-field g l = HasFieldsOf l.self (borrowed (take l.field-index l.fields))
    × AreJoined (λ field part. AreFoundInTexts g.L.Language.tokens_of g.L.Language.leaves_of
    (λ b. (goal.PipelineFn-dyn g b).leaves b.1) l.self l.join field l.query part
    × AreFoundInTrie g.L.Language.tokens_of g.L.Language.leaves_of (λ b. (goal.PipelineFn-dyn g b).leaves b.1) l.self
    l.join field l.query part
    × AreFoundAsChosen g.L.Language.tokens_of g.L.Language.leaves_of (λ b. (goal.PipelineFn-dyn g b).leaves b.1) l.self
    l.join field l.query part)
    (borrowed (take l.field-index l.fields)) (bytes_of l.found.keys)
