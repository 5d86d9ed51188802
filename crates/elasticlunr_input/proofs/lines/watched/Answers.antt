use Rattle.std.proofs.Common.{IfOk, IfErr, OnOk, subst}
use Rattle.elasticlunr_text.specs.Text.{Bytes}
use Rattle.elasticlunr_job_format.specs.LineRead.{AreAll}
use Rattle.elasticlunr_job_format.specs.ObjectsTold.{options_told}
use Rattle.elasticlunr_documents.specs.Lines.{FailsLines, IsMadeOfLines}
use Rattle.elasticlunr_documents.specs.Seen.{SawLines}
use Rattle.elasticlunr_input.specs.NotedAll.{Notices}
use Rattle.elasticlunr_input.proofs.lines.watched.Goals as goal

pub returns-clause-ok : goal.returns-clause-ok
returns-clause-ok g c =
    subst (λ known. IfOk c.lines_made.result (λ made. (text : Bytes) × AreAll known text
    × IsMadeOfLines (options_told c.args.options.now) text (g.M.Make.makes c.args.maker.now made))) c.chain-all.ensures.bytes
    c.lines_made.ensures.ok

pub returns-clause-err : goal.returns-clause-err
returns-clause-err g c =
    subst (λ known. IfErr c.lines_made.result
    (FailsLines (options_told c.args.options.now) known c.lines_made.new.last)) c.chain-all.ensures.bytes
    c.lines_made.ensures.err

pub returns-clause-seen : goal.returns-clause-seen
returns-clause-seen g c =
    subst (λ known. OnOk c.lines_made.result ((text : Bytes) × AreAll known text
    × SawLines Notices (options_told c.args.options.now) text c.args.notes.now c.lines_made.new.watch))
    c.chain-all.ensures.bytes c.lines_made.ensures.seen
