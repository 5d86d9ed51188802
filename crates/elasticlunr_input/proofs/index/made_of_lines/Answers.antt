use Rattle.std.proofs.Common.{map, ap, ◌∙◌, Some}
use Rattle.serde_json.specs.View.{view}
use Rattle.elasticlunr_job.proofs.Stops.{err_more, ok_more}
use Rattle.elasticlunr_job_format.specs.ObjectsTold.{options_told}
use Rattle.elasticlunr_input.specs.Settled.{settings_told}
use Rattle.elasticlunr_input.proofs.HeadLemmas.{chained_first, chained_made, chained_lines, chained_unread, exit_at}
use Rattle.elasticlunr_input.specs.NotedAll.{HasBegun}
use Rattle.elasticlunr_input.proofs.NotedLines.{chained_noted}
use Rattle.elasticlunr_input.proofs.NotingAll.{on_more}
use Rattle.elasticlunr_input.proofs.index.made_of_lines.Goals as goal

pub returns-in_err-first-clause-err : goal.returns-in_err-first-clause-err
returns-in_err-first-clause-err g c =
    exit_at c.from_residual.result _ c.in_err-first.field-0.0 c.from_residual.ensures.1
    (chained_unread c.args.head.now (g.R.Read.remaining c.args.reader.now) (settings_told c.args.settings.now)
    c.args.last.now c.in_err-first.field-0.0 c.in_err-first.ensures.err c.in_err-first.ensures.place)

pub returns-in_err-check_first-clause-err : goal.returns-in_err-check_first-clause-err
returns-in_err-check_first-clause-err g c =
    let are = ap (λ vs. map Some (map view vs)) c.as_slice-items.ensures.value ∙ c.in_ok-first.ensures.ok in
    exit_at c.from_residual-in_err-check_first.result _ c.in_err-check_first.field-0.0
    c.from_residual-in_err-check_first.ensures.1
    (chained_first c.args.head.now (g.R.Read.remaining c.args.reader.now) (settings_told c.args.settings.now)
    c.args.last.now c.in_err-check_first.field-0.0 (options_told c.in_ok-options.options)
    (map view c.as_slice-items.result.now) are (c.in_ok-options.ensures (c.as_str.ensures.value ∙ c.in_ok-reference.ensures))
    c.in_err-check_first.ensures.err)

pub returns-clause-ok : goal.returns-clause-ok
returns-clause-ok g c =
    let are = ap (λ vs. map Some (map view vs)) c.as_slice-items.ensures.value ∙ c.in_ok-first.ensures.ok in
    ok_more c.lines_made_of.result _ _
    (λ made is. chained_made c.args.head.now (g.R.Read.remaining c.args.reader.now) (settings_told c.args.settings.now)
    (options_told c.in_ok-options.options) (map view c.as_slice-items.result.now) c.args.last.now (g.M.Make.makes c.args.maker.now made) are
    (c.in_ok-options.ensures (c.as_str.ensures.value ∙ c.in_ok-reference.ensures)) is)
    c.lines_made_of.ensures.ok

pub returns-clause-err : goal.returns-clause-err
returns-clause-err g c =
    let are = ap (λ vs. map Some (map view vs)) c.as_slice-items.ensures.value ∙ c.in_ok-first.ensures.ok in
    err_more c.lines_made_of.result _ _
    (λ e is. chained_lines c.args.head.now (g.R.Read.remaining c.args.reader.now) (settings_told c.args.settings.now)
    c.args.last.now (options_told c.in_ok-options.options) (map view c.as_slice-items.result.now) are
    (c.in_ok-options.ensures (c.as_str.ensures.value ∙ c.in_ok-reference.ensures))
    c.in_ok-check_first.ensures.ok e is)
    c.lines_made_of.ensures.err

pub returns-clause-noted : goal.returns-clause-noted
returns-clause-noted g c =
    let are = ap (λ vs. map Some (map view vs)) c.as_slice-items.ensures.value ∙ c.in_ok-first.ensures.ok in
    let options = options_told c.in_ok-options.options in
    let settings = settings_told c.args.settings.now in
    let begun : HasBegun settings options c.args.notes.now c.begin.new.self = record {
      rules = record {
        longest = c.in_ok-begin.ensures.longest;
        stored = c.in_ok-begin.ensures.stored;
        seen = c.begin.ensures.seen;
      };
      known = c.in_ok-begin.ensures.known;
    } in
    on_more c.lines_made_of.result c.lines_made_of.ensures.noted
    (chained_noted c.args.head.now (g.R.Read.remaining c.args.reader.now) settings options
    (map view c.as_slice-items.result.now) c.args.last.now c.args.notes.now c.begin.new.self c.lines_made_of.new.notes are
    (c.in_ok-options.ensures (c.as_str.ensures.value ∙ c.in_ok-reference.ensures)) begun)
