use Rattle.std.proofs.Common.{ap, subst, ◌∙◌, Some, IfSome}
use Rattle.std.specs.Fmt.{option_append}
use Rattle.elasticlunr_job.proofs.Stops.{err_more, ok_more}
use Rattle.elasticlunr_diagnostics.specs.Forms.{asked_or_told}
use Rattle.elasticlunr_input.specs.Indexes.{IsMadeFrom}
use Rattle.elasticlunr_input.specs.Mark.{without_mark}
use Rattle.elasticlunr_input.specs.RefusedRead.{IsRefusedFrom}
use Rattle.elasticlunr_input.specs.Settled.{settings_told}
use Rattle.elasticlunr_input.specs.NotedFrom.{IsNotedAs}
use Rattle.elasticlunr_input.proofs.HeadLemmas.{exit_at}
use Rattle.elasticlunr_input.proofs.MarkLemmas.{of_whole, start_not_read}
use Rattle.elasticlunr_input.proofs.NotingAll.{on_more}
use Rattle.elasticlunr_input.proofs.index.made_of_input.Goals as goal

pub returns-in_err-start-clause-err : goal.returns-in_err-start-clause-err
returns-in_err-start-clause-err g c =
    exit_at c.from_residual.result _ c.in_err-start.field-0.0 c.from_residual.ensures.1
    (start_not_read c.args.asked (settings_told c.args.settings.now) (g.R.Read.remaining c.args.reader.now)
    c.in_err-start.field-0.0 c.in_err-start.ensures.err)

pub returns-clause-ok : goal.returns-clause-ok
returns-clause-ok g c =
    let left = g.R.Read.remaining in
    let settings = settings_told c.args.settings.now in
    let known = c.chain-all.ensures.bytes ∙ ap (λ bs. option_append (Some bs) (left c.read_start.new.reader))
    (c.without_mark.ensures ∙ ap without_mark c.deref.ensures.value) in
    ok_more c.made_unmarked.result _ _
    (λ made is. of_whole (λ text. IsMadeFrom c.args.asked settings text (g.M.Make.makes c.args.maker.now made)) (left c.args.reader.now)
    (left c.read_start.new.reader) c.in_ok-start.start.items c.in_ok-start.ensures.taken
    c.in_ok-start.ensures.whole
    (subst (λ bytes. IfSome bytes (λ text. IsMadeFrom c.args.asked settings text (g.M.Make.makes c.args.maker.now made))) known is))
    c.made_unmarked.ensures.ok

pub returns-clause-err : goal.returns-clause-err
returns-clause-err g c =
    let left = g.R.Read.remaining in
    let settings = settings_told c.args.settings.now in
    let known = c.chain-all.ensures.bytes ∙ ap (λ bs. option_append (Some bs) (left c.read_start.new.reader))
    (c.without_mark.ensures ∙ ap without_mark c.deref.ensures.value) in
    err_more c.made_unmarked.result _ _
    (λ e is. of_whole (λ text. IsRefusedFrom (asked_or_told c.args.asked text) settings text e) (left c.args.reader.now)
    (left c.read_start.new.reader) c.in_ok-start.start.items c.in_ok-start.ensures.taken
    c.in_ok-start.ensures.whole
    (subst (λ bytes. IfSome bytes (λ text. IsRefusedFrom (asked_or_told c.args.asked text) settings text e)) known is))
    c.made_unmarked.ensures.err

pub returns-clause-noted : goal.returns-clause-noted
returns-clause-noted g c =
    let left = g.R.Read.remaining in
    let settings = settings_told c.args.settings.now in
    let known = c.chain-all.ensures.bytes ∙ ap (λ bs. option_append (Some bs) (left c.read_start.new.reader))
    (c.without_mark.ensures ∙ ap without_mark c.deref.ensures.value) in
    on_more c.made_unmarked.result c.made_unmarked.ensures.noted
    (λ is. of_whole (λ text. IsNotedAs (asked_or_told c.args.asked text) settings text c.args.notes.now c.made_unmarked.new.notes)
    (left c.args.reader.now) (left c.read_start.new.reader) c.in_ok-start.start.items c.in_ok-start.ensures.taken
    c.in_ok-start.ensures.whole
    (subst (λ bytes. IfSome bytes (λ text. IsNotedAs (asked_or_told c.args.asked text) settings text c.args.notes.now
    c.made_unmarked.new.notes)) known is))
