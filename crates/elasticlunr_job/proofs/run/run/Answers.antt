use Rattle.std.proofs.Common.{◌∙◌, string_bytes, inr, sym, subst, true≢false}
use Rattle.std.specs.Io.KnownBytes.{Appends}
use Rattle.elasticlunr_device.specs.Device.{AppendsBeginning}
use Rattle.elasticlunr_device.proofs.Devices.{no_error}
use Rattle.elasticlunr_job.proofs.run.run.Goals as goal

pub returns-in-Ok-write_all-clause-ok : goal.returns-in-Ok-write_all-clause-ok
returns-in-Ok-write_all-clause-ok g c = (
  string_bytes c.in-Ok.text,
  (c.in_ok-bytes.bytes.items, c.in_ok-bytes.ensures.all, c.in-Ok.ensures),
  subst (Appends (g.K.Sink.taken c.args.writer.now) (g.K.Sink.taken c.write_all.new.sink)) (c.as_bytes.ensures.value
      ∙ c.as_str.ensures.value) c.in-Ok-write_all.ensures.ok,
)

pub returns-in-Ok-write_all-clause-ok_unmarked : goal.returns-in-Ok-write_all-clause-ok_unmarked
returns-in-Ok-write_all-clause-ok_unmarked g c = (c.in_ok-bytes.ensures.unmarked, c.in-Ok-write_all.ensures.unmarked)

pub returns-in-Ok-write_all-clause-writer_fault : goal.returns-in-Ok-write_all-clause-writer_fault
returns-in-Ok-write_all-clause-writer_fault g c failed =
    absurd (true≢false (sym failed ∙ c.in-Ok-write_all.ensures.unmarked))

pub returns-in-Ok-write_all-clause-reader_fault : goal.returns-in-Ok-write_all-clause-reader_fault
returns-in-Ok-write_all-clause-reader_fault g c failed =
    absurd (true≢false (sym failed ∙ c.in_ok-bytes.ensures.unmarked))

pub returns-in-Ok-write_all-clause-device : goal.returns-in-Ok-write_all-clause-device
returns-in-Ok-write_all-clause-device g c is = absurd (no_error _ _ is)

pub returns-in-Ok-write_all-clause-memory : goal.returns-in-Ok-write_all-clause-memory
returns-in-Ok-write_all-clause-memory g c is = absurd (no_error _ _ is)

pub returns-in-Ok-write_all-clause-memory_unmarked : goal.returns-in-Ok-write_all-clause-memory_unmarked
returns-in-Ok-write_all-clause-memory_unmarked g c is = absurd (no_error _ _ is)

pub returns-clause-writer_fault : goal.returns-clause-writer_fault
returns-clause-writer_fault g c failed =
    let taken = g.K.Sink.taken in
    let began = subst (AppendsBeginning (taken c.args.writer.now) (taken c.write_all.new.sink))
    (c.as_bytes.ensures.value ∙ c.as_str.ensures.value) c.in-Err.ensures.err in (
      c.in_ok-bytes.ensures.unmarked,
      (
        c.in-Ok.outcome,
        string_bytes c.in-Ok.text,
        (c.in_ok-bytes.bytes.items, c.in_ok-bytes.ensures.all, c.in-Ok.ensures),
        began,
      ),
    )

pub returns-clause-reader_fault : goal.returns-clause-reader_fault
returns-clause-reader_fault g c failed = absurd (true≢false (sym failed ∙ c.in_ok-bytes.ensures.unmarked))

pub returns-clause-device : goal.returns-clause-device
returns-clause-device g c is = inr c.in-Err.ensures.marked
