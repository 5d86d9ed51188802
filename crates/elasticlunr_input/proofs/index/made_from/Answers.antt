use Rattle.std.proofs.Common.{Option, None, Some, IfSome}
use Rattle.elasticlunr_diagnostics.specs.Forms.{asked_or_told}
use Rattle.elasticlunr_input.specs.Mark.{without_mark}
use Rattle.elasticlunr_input.specs.Settled.{settings_told}
use Rattle.elasticlunr_input.specs.Warnings.{warnings_of}
use Rattle.elasticlunr_input.proofs.Counting.{counts_noted, wordless_noted}
use Rattle.elasticlunr_input.proofs.MadeMore.{if_made}
use Rattle.elasticlunr_input.proofs.index.made_from.Goals as goal

some_more : {X : Type 0} (o : Option X) (P Q : X → Type 0) → ((x : X) → P x → Q x) → IfSome o P → IfSome o Q
some_more None P Q more is = tt
some_more (Some x) P Q more is = more x is

some_both : {X : Type 0} (o : Option X) (P Q R : X → Type 0) → ((x : X) → P x → Q x → R x) → IfSome o P → IfSome o Q
    → IfSome o R
some_both None P Q R more is also = tt
some_both (Some x) P Q R more is also = more x is also

pub returns-in-Err-clause-err : goal.returns-in-Err-clause-err
returns-in-Err-clause-err g c = some_more (g.R.Read.remaining c.args.reader.now) _ _
    (λ _ is. c.blamed.ensures.refused _ _ _ is) c.in-Err.ensures.err

pub returns-in_ok-count-in-Ok-clause-ok : goal.returns-in_ok-count-in-Ok-clause-ok
returns-in_ok-count-in-Ok-clause-ok g c =
    if_made _ (g.M.Make.makes c.args.maker.now c.in-Ok.made) (λ pretty plan commands both. both.0)
    (g.R.Read.remaining c.args.reader.now) (asked_or_told c.args.asked) (settings_told c.args.settings.now) without_mark
    c.in-Ok.ensures.ok

pub returns-in_ok-count-in-Ok-clause-counts : goal.returns-in_ok-count-in-Ok-clause-counts
returns-in_ok-count-in-Ok-clause-counts g c =
    if_made _ _ (λ pretty plan commands both. counts_noted plan commands c.in-Ok.counts _ _
    c.in_ok-count-in-Ok.ensures.documents c.in_ok-count-in-Ok.ensures.tokens both.1)
    (g.R.Read.remaining c.args.reader.now) (asked_or_told c.args.asked) (settings_told c.args.settings.now) without_mark
    c.in-Ok.ensures.ok

pub returns-in_ok-count-in-Ok-clause-warnings : goal.returns-in_ok-count-in-Ok-clause-warnings
returns-in_ok-count-in-Ok-clause-warnings g c =
    let left = g.R.Read.remaining c.args.reader.now in
    let earlier = warnings_of c.long_words.new.self in
    let made = if_made _ _ (λ pretty plan commands both. wordless_noted plan commands c.in-Ok.counts earlier _
    c.in_ok-count-in-Ok.ensures.warnings both.1)
    left (asked_or_told c.args.asked) (settings_told c.args.settings.now) without_mark c.in-Ok.ensures.ok in
    some_both left _ _ _
    (λ text noted is. (earlier, (c.made_of_input.new.notes, noted, c.in_ok-long_words-in-Ok.ensures), is))
    c.in-Ok.ensures.noted made
