use Rattle.std.proofs.Common.{◌≡◌, false, None, sym, ap, subst, ◌∙◌}
use Rattle.elasticlunr_documents.specs.LinesTold.{IsTaken, StopsOn}
use Rattle.elasticlunr_job_format.specs.Lines.{is_blank}
use Rattle.elasticlunr_job_format.specs.Reading.{reading}
use Rattle.elasticlunr_job_format.specs.declared.objects.ObjectFault.TheVariants.{NotJson}
use Rattle.elasticlunr_documents.proofs.LineStops.{at_any_line, exit_for, on_no_device, unread_after}
use Rattle.elasticlunr_documents.proofs.lines.next_value.Goals as goal

pub returns-in-Err-clause-err : goal.returns-in-Err-clause-err
returns-in-Err-clause-err g c = at_any_line c.args.number _ c.unread.result c.unread.ensures.err

pub returns-in_err-value-clause-err : goal.returns-in_err-value-clause-err
returns-in_err-value-clause-err g c =
    let left = g.R.Read.remaining in
    let line = c.read_line.new.line.items in
    let number = c.args.number in
    let e = c.in_err-value.field-0.0 in
    let blank : is_blank line ≡ false = ap is_blank (sym c.deref.ensures.value)
    ∙ (sym c.is_blank.ensures ∙ c.if-is_blank.false) in
    let taken : IsTaken (left c.args.reader.now) (left c.read_line.new.reader) line c.in-Ok.more = record {
      no_feed = c.in-Ok.ensures.line;
      taken = c.in-Ok.ensures.taken;
      last = c.in-Ok.ensures.last;
    } in
    exit_for c.from_residual.result _ e c.from_residual.ensures.1
    (unread_after number (left c.args.reader.now) (left c.read_line.new.reader) line c.in-Ok.more taken blank e
    (subst (λ bytes. StopsOn number (λ problem. (reading bytes ≡ None) × (problem ≡ NotJson)) e) c.deref-2.ensures.value
    c.in_err-value.ensures.err))

pub returns-in_err-value-clause-device : goal.returns-in_err-value-clause-device
returns-in_err-value-clause-device g c = exit_for c.from_residual.result _ c.in_err-value.field-0.0
    c.from_residual.ensures.1 (on_no_device _ c.args.number _ c.in_err-value.field-0.0 c.in_err-value.ensures.err)
